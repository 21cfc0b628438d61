-- A line feed behind what is printed of tokens changes nothing of what is read.
use Rattle.std.proofs.Common.{◌≡◌, Bool, true, false, cond, ◌&&◌, ℕ, List, [], ◌∷◌, ◌++◌, refl, sym, ap, ap₂, ◌∙◌, append_assoc}
use Rattle.json.specs.Token.{Token, begin_object, end_object, begin_array, end_array, key, string, number, boolean, null, bad}
use Rattle.json.specs.Word.{ends_word, word}
use Rattle.json.specs.Lex.{Lexeme, token, comma, colon, string_token, lex, between, fresh, punctuate, tokens}
use Rattle.json.specs.Print.{escape, quoted, token_text, begins, ends, separator, print_from, print, IsPrintable, ArePrintable}
use Rattle.json.proofs.Printed.Strings.{content-escape, lex-escape}
use Rattle.json.proofs.Printed.Numbers.{lex-number, in_word-ended}
use Rattle.json.proofs.Printed.Tokens.{tokens-print}

abbrev line_end : List ℕ
line_end = 10 ∷ []

-- ---- one token, whatever follows it

abbrev lexemes_of : Token → List Lexeme
lexemes_of begin_object = token begin_object ∷ []
lexemes_of end_object = token end_object ∷ []
lexemes_of begin_array = token begin_array ∷ []
lexemes_of end_array = token end_array ∷ []
lexemes_of (key s) = token (string s) ∷ colon ∷ []
lexemes_of (string s) = token (string s) ∷ []
lexemes_of (number s) = token (number s) ∷ []
lexemes_of (boolean b) = token (boolean b) ∷ []
lexemes_of null = token null ∷ []
lexemes_of bad = []

quoted_lexed : (s r : List ℕ) → lex between (quoted s ++ r) ≡ token (string s) ∷ lex between r
unfolding lex
quoted_lexed s r =
    ap (λ l. lex between (34 ∷ l)) (append_assoc (escape s) (34 ∷ []) r)
    ∙ ap₂ (λ o l. token (string_token o) ∷ l) (content-escape s r) (lex-escape s r)

token_lexed : (t : Token) (r : List ℕ) → IsPrintable t → (ends t ≡ true → ends_word r ≡ true)
    → lex between (token_text t ++ r) ≡ lexemes_of t ++ lex between r
unfolding lex word
token_lexed begin_object r h ended = refl
token_lexed end_object r h ended = refl
token_lexed begin_array r h ended = refl
token_lexed end_array r h ended = refl
token_lexed (key s) r h ended = ap (lex between) (append_assoc (quoted s) (58 ∷ []) r) ∙ quoted_lexed s (58 ∷ r)
token_lexed (string s) r h ended = quoted_lexed s r
token_lexed (number s) r h ended = lex-number s r h (ended refl)
token_lexed (boolean true) r h ended = ap₂ (λ b l. token (cond b (boolean true) bad) ∷ l) (ended refl) (in_word-ended r (ended refl))
token_lexed (boolean false) r h ended = ap₂ (λ b l. token (cond b (boolean false) bad) ∷ l) (ended refl) (in_word-ended r (ended refl))
token_lexed null r h ended = ap₂ (λ b l. token (cond b null bad) ∷ l) (ended refl) (in_word-ended r (ended refl))
token_lexed bad r h ended = absurd h

separator_lexed : (b : Bool) (r : List ℕ) → lex between (cond b (44 ∷ []) [] ++ r) ≡ cond b (comma ∷ []) [] ++ lex between r
unfolding lex
separator_lexed true r = refl
separator_lexed false r = refl

-- ---- all of them

-- behind a value a comma, a closing bracket or the end stands
value_ended : (ts : List Token) → (ends_word (print_from true ts) ≡ true) × (ends_word (print_from true ts ++ line_end) ≡ true)
unfolding print_from
value_ended [] = (refl, refl)
value_ended (begin_object ∷ ts) = (refl, refl)
value_ended (end_object ∷ ts) = (refl, refl)
value_ended (begin_array ∷ ts) = (refl, refl)
value_ended (end_array ∷ ts) = (refl, refl)
value_ended (key s ∷ ts) = (refl, refl)
value_ended (string s ∷ ts) = (refl, refl)
value_ended (number s ∷ ts) = (refl, refl)
value_ended (boolean b ∷ ts) = (refl, refl)
value_ended (null ∷ ts) = (refl, refl)
value_ended (bad ∷ ts) = (refl, refl)

same_lexemes : (c : Bool) (ts : List Token) → ArePrintable ts → lex between (print_from c ts ++ line_end) ≡ lex between (print_from c ts)
unfolding lex print_from ArePrintable
same_lexemes c [] h = refl
same_lexemes c (t ∷ ts) h =
    let rest = print_from (ends t) ts in
    let before = separator c t in
    let commas = cond (c && begins t) (comma ∷ []) [] in
    ap (lex between) (append_assoc before (token_text t ++ rest) line_end ∙ ap (λ l. before ++ l) (append_assoc (token_text t) rest line_end))
    ∙ (separator_lexed (c && begins t) (token_text t ++ (rest ++ line_end))
    ∙ (ap (λ l. commas ++ l)
    (token_lexed t (rest ++ line_end) h.0 (λ e. ap (λ b. ends_word (print_from b ts ++ line_end)) e ∙ (value_ended ts).1)
    ∙ (ap (λ l. lexemes_of t ++ l) (same_lexemes (ends t) ts h.1)
    ∙ sym (token_lexed t rest h.0 (λ e. ap (λ b. ends_word (print_from b ts)) e ∙ (value_ended ts).0))))
    ∙ sym (separator_lexed (c && begins t) (token_text t ++ rest))))

-- tokens are read back from what is printed of them, with a line feed behind it
pub tokens_ended : (ts : List Token) → ArePrintable ts → tokens (print ts ++ line_end) ≡ ts
tokens_ended ts h = ap (punctuate fresh) (same_lexemes false ts h) ∙ tokens-print ts h
