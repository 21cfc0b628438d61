-- Expressions of `if-feature`: what spells one, and when it holds (RFC 7950, 7.20.2, and `if-feature-expr` of 14; RFC 6020,
-- 7.18.2).
use Rattle.std.specs.Prelude.{ℕ, zero, suc, ◌+◌, ◌*◌, ◌==◌, ◌&&◌, ◌||◌, Bool, not, List, [], ◌∷◌, ◌++◌, length, codes, Option, Some, None, nat_lt, option_map, if◌then◌else◌}
use Rattle.yspec.specs.text.Text.{Text, is_text, is_white}
use Rattle.yspec.specs.linking.Arguments.{Name, name_of}
use Rattle.yspec_wide.specs.Language.{YangVersion, yang_1, yang_1_1}

pub data Expression : Type 0 where
  feature : Name → Expression
  not_so : Expression → Expression
  both_so : Expression → Expression → Expression
  one_so : Expression → Expression → Expression

-- whether it holds where the features of some names are on
abbrev pub holds : (Name → Bool) → Expression → Bool
holds on (feature name) = on name
holds on (not_so e) = not (holds on e)
holds on (both_so e f) = holds on e && holds on f
holds on (one_so e f) = holds on e || holds on f

-- the names of features in it
abbrev pub names_in : Expression → List Name
names_in (feature name) = name ∷ []
names_in (not_so e) = names_in e
names_in (both_so e f) = names_in e ++ names_in f
names_in (one_so e f) = names_in e ++ names_in f

-- ---- the words of a text

pub data Token : Type 0 where
  opening : Token
  closing : Token
  not_token : Token
  and_token : Token
  or_token : Token
  name_token : Text → Token

abbrev pub token_of : Text → Token
token_of t = if is_text t (codes "and") then and_token else (if is_text t (codes "or") then or_token
    else (if is_text t (codes "not") then not_token else name_token t))

-- ---- characters, sorted first

pub data Sort : Type 0 where
  white : Sort
  open_paren : Sort
  close_paren : Sort
  letter : Sort

abbrev pub sort_of : ℕ → Sort
sort_of x = if is_white x then white else (if x == 40 then open_paren else (if x == 41 then close_paren else letter))

abbrev pub with_word : Text → List Token → List Token
with_word [] tokens = tokens
with_word (x ∷ xs) tokens = token_of (x ∷ xs) ∷ tokens

abbrev pub next_tokens : Sort → ℕ → Text → (Text → List Token) → List Token
next_tokens white x before more = with_word before (more [])
next_tokens open_paren x before more = with_word before (opening ∷ more [])
next_tokens close_paren x before more = with_word before (closing ∷ more [])
next_tokens letter x before more = more (before ++ x ∷ [])

-- A word ends at white space and at a parenthesis; `before` is what stands of it.
unfoldable pub tokens_from : Text → Text → List Token
tokens_from before [] = with_word before []
tokens_from before (x ∷ xs) = next_tokens (sort_of x) x before (λ t. tokens_from t xs)

-- ---- reading: `not` binds closest, then `and`, then `or`; both join to the right

pub data Level : Type 0 where
  expr : Level
  term : Level
  factor : Level

-- an expression, and the words behind it
abbrev pub Read : Type 0
Read = Option (Expression × List Token)

abbrev pub joined : (Expression → Expression → Expression) → Expression → Read → Read
joined join e other = option_map (λ p. (join e p.0, p.1)) other

-- `if-feature-term [sep or-keyword sep if-feature-expr]`
abbrev pub behind_term : (Level → List Token → Read) → Read → Read
behind_term rest None = None
behind_term rest (Some (e, or_token ∷ tokens)) = joined one_so e (rest expr tokens)
behind_term rest (Some (e, tokens)) = Some (e, tokens)

-- `if-feature-factor [sep and-keyword sep if-feature-term]`
abbrev pub behind_factor : (Level → List Token → Read) → Read → Read
behind_factor rest None = None
behind_factor rest (Some (e, and_token ∷ tokens)) = joined both_so e (rest term tokens)
behind_factor rest (Some (e, tokens)) = Some (e, tokens)

abbrev pub closed : Read → Read
closed (Some (e, closing ∷ tokens)) = Some (e, tokens)
closed _ = None

-- `not-keyword sep if-feature-factor / "(" optsep if-feature-expr optsep ")" / identifier-ref-arg`
abbrev pub one_factor : (Level → List Token → Read) → List Token → Read
one_factor rest (not_token ∷ tokens) = option_map (λ p. (not_so p.0, p.1)) (rest factor tokens)
one_factor rest (opening ∷ tokens) = closed (rest expr tokens)
one_factor rest (name_token t ∷ tokens) = option_map (λ name. (feature name, tokens)) (name_of t)
one_factor rest _ = None

-- what the first words spell, by so many steps at most
unfoldable pub read : ℕ → Level → List Token → Read
read zero level tokens = None
read (suc steps) expr tokens = behind_term (read steps) (read steps term tokens)
read (suc steps) term tokens = behind_factor (read steps) (read steps factor tokens)
read (suc steps) factor tokens = one_factor (read steps) tokens

abbrev pub all_read : Read → Option Expression
all_read (Some (e, [])) = Some e
all_read _ = None

-- the most words and parentheses of an expression
abbrev pub word_limit : ℕ
word_limit = 127

-- three steps a word are enough
abbrev pub expression_read : List Token → Option Expression
expression_read tokens =
    if nat_lt word_limit (length tokens) then None else all_read (read (3 * length tokens + 3) expr tokens)

-- The expression that an argument spells, if it spells one; in YANG 1 it is the name of a feature.
abbrev pub expression_of : YangVersion → Text → Option Expression
expression_of yang_1 t = option_map feature (name_of t)
expression_of yang_1_1 t = expression_read (tokens_from [] t)
