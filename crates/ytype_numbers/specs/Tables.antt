-- Tables of names, by name and by number.
use Rattle.std.specs.Prelude.{◌≡◌, ℤ, FitsSigned, int_lt, true, List, [], ◌∷◌, map, Option, Some, None, option_map, find, string_bytes, if◌then◌else◌}
use Rattle.std.specs.Int.{w64}
use Rattle.std.specs.List.{AllZip, list_all}
use Rattle.std.specs.BTreeMap.{BTreeMap, get_by_text}
use Rattle.std.specs.declared.string.String.{String}
use Rattle.yspec.specs.text.Text.{Text, is_text}
use Rattle.yspec.specs.types.Names.{Assigned, is_new, placed}
use Rattle.ytype_numbers.specs.Words.{named}

-- the names that a table by number holds, in its order
abbrev pub assigned : {Z : Type 0} → List (ℤ × String Z) → List Assigned
assigned entries = map (λ e. named (string_bytes e.1) e.0) entries

-- one name more, where its name and its number are new
abbrev pub new_placed : Assigned → List Assigned → Option (List Assigned)
new_placed a names = if is_new a names then Some (placed a names) else None

-- each number has 64 bits
abbrev pub AreWords : List Assigned → Type 0
AreWords [] = Unit {0}
AreWords (a ∷ names) = FitsSigned w64 a.number × AreWords names

-- a table by name that finds the number of each of some names, and nothing else
pub record IsIndex {Z : Type 0} (by_name : BTreeMap (String Z) ℤ) (names : List Assigned) : Type 0 where
  pub finds : (text : Text) → get_by_text by_name text ≡ option_map (λ a. a.number) (find (λ a. is_text text a.name) names)
  pub words : AreWords names

-- the number of a name
abbrev pub number_named : Text → List Assigned → Option ℤ
number_named text names = option_map (λ a. a.number) (find (λ a. is_text text a.name) names)

-- some names, and the table that finds them by name, where there is one
abbrev pub Finds : {Z : Type 0} → Option (BTreeMap (String Z) ℤ) → List Assigned → Type 0
Finds None names = AreWords names
Finds (Some by_name) names = IsIndex by_name names

-- two tables with the same entries, or none of both
abbrev pub AreAlike : {Z : Type 0} → Option (BTreeMap (String Z) ℤ) → Option (BTreeMap (String Z) ℤ) → Type 0
AreAlike None None = Unit {0}
AreAlike (Some table) (Some copy) = AllZip (λ p q. (string_bytes q.0 ≡ string_bytes p.0) × (q.1 ≡ p.1)) table.entries copy.entries
AreAlike _ _ = ⊥

-- a table, and the same with one name more, or none of both
abbrev pub HasMore : {Z : Type 0} → Option (BTreeMap (String Z) ℤ) → Option (BTreeMap (String Z) ℤ) → Text → ℤ → Type 0
HasMore None None name number = Unit {0}
HasMore (Some before) (Some after) name number =
    (text : Text) → get_by_text after text ≡ (if is_text name text then Some number else get_by_text before text)
HasMore _ _ name number = ⊥

-- names have lesser numbers than each of others
abbrev pub AreBefore : List Assigned → List Assigned → Type 0
AreBefore names [] = Unit {0}
AreBefore names (b ∷ others) = (list_all (λ a. int_lt a.number b.number) names ≡ true) × AreBefore names others

-- they stand in the order of their numbers
abbrev pub AreAscending : List Assigned → Type 0
AreAscending [] = Unit {0}
AreAscending (a ∷ names) = AreBefore (a ∷ []) names × AreAscending names
