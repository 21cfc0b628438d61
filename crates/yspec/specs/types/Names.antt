-- The names of enumerations and bits with their numbers (RFC 7950, 9.6.4 and 9.7.4).
use Rattle.std.specs.Prelude.{ℕ, ◌-◌, ◌^◌, ℤ, pos, negsuc, ◌+ℤ◌, int_lt, ◌==◌, Bool, true, false, not, ◌&&◌, ◌||◌, List, [], ◌∷◌, map, filter, find, Option, Some, None, option_map, option_and_then, if◌then◌else◌}
use Rattle.std.specs.List.{list_any, list_all, slice_split}
use Rattle.std.specs.Option.{option_map_or}
use Rattle.std.specs.Ordering.{int_eq}
use Rattle.yspec.specs.text.Text.{Text, is_text, is_white, space}
use Rattle.yspec.specs.types.Ranges.{Part, lies_in}

-- a name as a module writes it, perhaps with its number
pub record Naming : Type 0 where
  pub name : Text
  pub number : Option ℤ

pub record Assigned : Type 0 where
  pub name : Text
  pub number : ℤ

-- one more than the last number of a row, or another number where there is none
abbrev pub next_after : ℤ → List Assigned → ℤ
next_after next [] = next
next_after next (a ∷ names) = next_after (a.number +ℤ pos 1) names

-- a name without a number has 0 if it is the first, else the highest so far plus one
abbrev pub next_number : List Assigned → ℤ
next_number names = next_after (pos 0) names

abbrev pub number_of : List Assigned → Option ℤ → ℤ
number_of names None = next_number names
number_of names (Some z) = z

-- names stand in the order of their numbers
abbrev pub placed : Assigned → List Assigned → List Assigned
placed a [] = a ∷ []
placed a (b ∷ bs) = if int_lt a.number b.number then a ∷ b ∷ bs else b ∷ placed a bs

abbrev pub is_like : Assigned → Assigned → Bool
is_like a b = is_text a.name b.name || int_eq a.number b.number

abbrev pub is_new : Assigned → List Assigned → Bool
is_new a names = not (list_any (is_like a) names)

abbrev pub with_assigned : Part → Assigned → List Assigned → Option (List Assigned)
with_assigned numbers a names =
    if lies_in a.number numbers && is_new a names then Some (placed a names) else None

-- one name more; numbers lie between two ends, and no name or number comes twice
abbrev pub with_name : Part → Naming → List Assigned → Option (List Assigned)
with_name numbers n names =
    with_assigned numbers (record { name = n.name; number = number_of names n.number }) names

-- the names of a statement, in its order, after those so far
abbrev pub assigned_from : Part → List Assigned → List Naming → Option (List Assigned)
assigned_from numbers names [] = Some names
assigned_from numbers names (n ∷ ns) =
    option_and_then (λ more. assigned_from numbers more ns) (with_name numbers n names)

-- ---- names of enums

-- whether a text ends in white space, where it goes on after a character that is white space or not
abbrev pub ends_white : Bool → Text → Bool
ends_white white [] = white
ends_white white (x ∷ xs) = ends_white (is_white x) xs

-- not empty, and no white space at either end
abbrev pub is_enum_name : Text → Bool
is_enum_name [] = false
is_enum_name (x ∷ xs) = not (is_white x || ends_white (is_white x) xs)

abbrev pub are_enum_names : List Naming → Bool
are_enum_names ns = list_all (λ n. is_enum_name n.name) ns

-- ---- texts of bits

abbrev pub is_space : ℕ → Bool
is_space c = c == space

abbrev pub is_word : Text → Bool
is_word [] = false
is_word (c ∷ cs) = true

-- what stands between spaces
abbrev pub words_of : Text → List Text
words_of t = filter is_word (slice_split is_space t)

abbrev pub is_among : List Text → Text → Bool
is_among words name = list_any (is_text name) words

abbrev pub has_twice : List Text → Bool
has_twice [] = false
has_twice (w ∷ ws) = is_among ws w || has_twice ws

-- each word is a name, and none comes twice
abbrev pub are_bit_names : List Assigned → List Text → Bool
are_bit_names names words = list_all (is_among (map (λ a. a.name) names)) words && not (has_twice words)

-- the names that are among words, by position
abbrev pub named_by : List Assigned → List Text → List Assigned
named_by names words = filter (λ a. is_among words a.name) names

abbrev pub positions_of : List Assigned → List ℤ
positions_of names = map (λ a. a.number) names

-- ---- the names of a statement

-- numbers of enums, RFC 7950, 9.6.4.2
abbrev pub enum_numbers : Part
enum_numbers = record { low = negsuc (2 ^ 31 - 1); high = pos (2 ^ 31 - 1) }

-- positions of bits, RFC 7950, 9.7.4.2
abbrev pub bit_positions : Part
bit_positions = record { low = pos 0; high = pos (2 ^ 32 - 1) }

abbrev pub enum_names : List Naming → Option (List Assigned)
enum_names ns = if are_enum_names ns then assigned_from enum_numbers [] ns else None

abbrev pub bit_names : List Naming → Option (List Assigned)
bit_names ns = assigned_from bit_positions [] ns

-- ---- the names that a restriction leaves of a type (RFC 7950, 9.6.4 and 9.7.4)

-- the number that a name has
abbrev pub number_named : List Assigned → Text → Option ℤ
number_named names t = option_map (λ a. a.number) (find (λ a. is_text t a.name) names)

-- one that is said is that
abbrev pub is_said : Option ℤ → ℤ → Bool
is_said None z = true
is_said (Some said) z = int_eq z said

-- one of the names of a type
abbrev pub is_naming_of : List Assigned → Naming → Bool
is_naming_of names n = option_map_or (is_said n.number) (number_named names n.name) false

abbrev pub texts_of : List Naming → List Text
texts_of ns = map (λ n. n.name) ns

-- each is one of the names of a type, and none comes twice
abbrev pub are_namings_of : List Assigned → List Naming → Bool
are_namings_of names ns = list_all (is_naming_of names) ns && not (has_twice (texts_of ns))

-- the names keep their numbers
abbrev pub names_left : List Assigned → List Naming → Option (List Assigned)
names_left names ns = if are_namings_of names ns then Some (named_by names (texts_of ns)) else None
