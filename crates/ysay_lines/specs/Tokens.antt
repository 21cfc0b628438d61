-- The tokens of a text, each as it is read from where it begins.
use Rattle.std.specs.Prelude.{ℕ, List, [], ◌∷◌, drop, map}
use Rattle.json.specs.Lex.{Lexeme, token, comma, colon, between, lex}
use Rattle.json.specs.Token.{Token, key, string, bad}
use Rattle.ysay_lines.specs.Starts.{starts}

-- a name is a string where it is read
abbrev pub unkeyed : Token → Token
unkeyed (key s) = string s
unkeyed t = t

-- without commas and colons
abbrev pub tokens_among : List Lexeme → List Token
tokens_among [] = []
tokens_among (token t ∷ ls) = t ∷ tokens_among ls
tokens_among (comma ∷ ls) = tokens_among ls
tokens_among (colon ∷ ls) = tokens_among ls

abbrev pub first_token : List Token → Token
first_token [] = bad
first_token (t ∷ ts) = t

-- the first that is read from an offset on
abbrev pub token_at : List ℕ → ℕ → Token
token_at text offset = first_token (tokens_among (lex between (drop offset text)))

abbrev pub tokens_at_starts : List ℕ → List Token
tokens_at_starts text = map (token_at text) (starts text)
