-- The words of YANG, by whether this program reads them (RFC 7950, 14).
use Rattle.std.specs.Prelude.{◌++◌, Bool, List, [], ◌∷◌, codes, map}
use Rattle.std.specs.List.{list_any}
use Rattle.yspec.specs.text.Text.{Text, is_text}
use Rattle.yspec.specs.linking.Keyword.{keyword_text, keywords}

-- keywords that are YANG's, and aren't read
abbrev pub unread_words : List Text
unread_words = codes "action" ∷ codes "anydata" ∷ codes "anyxml" ∷ codes "argument" ∷ codes "belongs-to"
    ∷ codes "deviate" ∷ codes "deviation" ∷ codes "feature" ∷ codes "if-feature" ∷ codes "include"
    ∷ codes "input" ∷ codes "modifier" ∷ codes "must" ∷ codes "notification" ∷ codes "output" ∷ codes "pattern"
    ∷ codes "rpc" ∷ codes "submodule" ∷ codes "when" ∷ codes "yin-element" ∷ []

abbrev pub is_unread : Text → Bool
is_unread word = list_any (is_text word) unread_words

abbrev pub read_words : List Text
read_words = map keyword_text keywords

-- all keywords, first those that are read
abbrev pub yang_words : List Text
yang_words = read_words ++ unread_words
