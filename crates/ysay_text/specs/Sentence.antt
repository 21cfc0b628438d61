-- What is said of the statements of a line in which one isn't known, isn't read or can't stand (C1).
use Rattle.std.specs.Prelude.{ℕ, ◌==◌, ◌&&◌, ◌++◌, Bool, false, not, List, [], ◌∷◌, codes, filter, find, Option, Some, None, is_some, if◌then◌else◌}
use Rattle.std.specs.Option.{option_map_or}
use Rattle.yspec.specs.Forest.{Forest, preorder}
use Rattle.yspec.specs.text.Text.{Text}
use Rattle.yspec.specs.text.Statement.{Statement}
use Rattle.yspec.specs.linking.Keyword.{keyword_named, type_word}
use Rattle.yspec.specs.linking.StatementBreaks.{has_keyword, is_prefixed, is_type_outside}
use Rattle.ysay_text.specs.Line.{shown}
use Rattle.ysay_text.specs.Near.{nearest}
use Rattle.ysay_text.specs.Word.{is_unread, yang_words}

-- ---- of a word

-- a word of the module's is shown as a line of it is
abbrev pub unknown_word : Text → Option Text → Text
unknown_word word None = codes "no statement is called " ++ (shown word ++ codes ".")
unknown_word word (Some near) = codes "no statement is called " ++ (shown word ++ (codes "; near it: " ++ (near ++ codes ".")))

abbrev pub unread_word : Text → Text
unread_word word = word ++ codes " is YANG 1.1, and isn't read here."

abbrev pub misplaced_word : Text → Text
misplaced_word word = shown word ++ codes " can't stand here."

-- of a word that is no keyword which is read
abbrev pub of_word : Text → Text
of_word word = if is_unread word then unread_word word else unknown_word word (nearest word yang_words)

-- ---- of the statements of a line

-- a keyword that isn't read; one with a prefix is an extension's
abbrev pub is_foreign : Statement → Bool
is_foreign s = not (is_prefixed s.keyword) && not (is_some (keyword_named s.keyword))

-- a `type` of a built-in type that isn't read
abbrev pub is_foreign_type : Statement → Bool
is_foreign_type s = has_keyword type_word s && option_map_or is_type_outside s.argument false

abbrev pub of_type : Option Text → Text
of_type None = []
of_type (Some name) = unread_word (codes "the type " ++ name)

-- where no word is foreign: a statement that is alone in its line can't stand there; of several it isn't said which
abbrev pub of_misplaced : List Statement → Text
of_misplaced [] = []
of_misplaced (s ∷ []) = misplaced_word s.keyword
of_misplaced (s ∷ t ∷ statements) = []

abbrev pub of_known : Option Statement → List Statement → Text
of_known (Some s) statements = of_type s.argument
of_known None statements = of_misplaced statements

abbrev pub of_statements : Option Statement → List Statement → Text
of_statements (Some s) statements = of_word s.keyword
of_statements None statements = of_known (find is_foreign_type statements) statements

-- the statements of a row, and below it, whose keywords stand in a line
abbrev pub in_line : ℕ → Forest Statement → List Statement
in_line line top = filter (λ s. s.line == line) (preorder top)

-- what is said of a line of a module's statements
unfoldable pub of_line : ℕ → Forest Statement → Text
of_line line top = let statements = in_line line top in of_statements (find is_foreign statements) statements
