-- Keywords and built-in types by how long their names are.
use Rattle.std.specs.Prelude.{ℕ, ◌==◌, ◌&&◌, Bool, not, nat_lt, length, filter, find, Option, option_map}
use Rattle.yspec.specs.text.Text.{Text, is_text}
use Rattle.yspec.specs.linking.Keyword.{Keyword, keyword_text, keywords}
use Rattle.yspec.specs.linking.TypeStatements.{BuiltIn, built_in_types}

abbrev pub is_four : ℕ → Bool
is_four n = n == 4

abbrev pub is_six : ℕ → Bool
is_six n = n == 6

abbrev pub is_nine : ℕ → Bool
is_nine n = n == 9

abbrev pub is_short : ℕ → Bool
is_short n = nat_lt n 6 && not (n == 4)

abbrev pub is_middle : ℕ → Bool
is_middle n = nat_lt 6 n && nat_lt n 9

abbrev pub is_long : ℕ → Bool
is_long n = nat_lt 9 n

-- the keyword that a text is, among those whose length passes a test
abbrev pub named_among : (ℕ → Bool) → Text → Option Keyword
named_among test t = find (λ k. is_text t (keyword_text k)) (filter (λ k. test (length (keyword_text k))) keywords)

abbrev pub is_five : ℕ → Bool
is_five n = n == 5

abbrev pub is_another : ℕ → Bool
is_another n = not (n == 4) && not (n == 5) && not (n == 6)

-- the built-in type of a name, among those the length of whose name passes a test
abbrev pub type_among : (ℕ → Bool) → Text → Option BuiltIn
type_among test t = option_map (λ entry. entry.1) (find (λ entry. is_text t entry.0) (filter (λ entry. test (length entry.0)) built_in_types))
