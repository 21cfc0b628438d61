-- What the argument of a statement spells, form by form (RFC 7950, 6.2, 6.5, 7, 9 and 14).
use Rattle.std.specs.Prelude.{ℕ, ◌+◌, ◌^◌, ◌==◌, ◌&&◌, ℤ, Bool, true, false, List, [], ◌∷◌, codes, length, take, drop, position, min, filter, Option, Some, None, is_some, option_map, option_and_then, if◌then◌else◌, nat_le}
use Rattle.std.specs.List.{slice_split}
use Rattle.std.specs.Option.{option_map_or}
use Rattle.yspec.specs.text.Text.{Text, is_text, is_white, is_digit, is_identifier, is_name, begins, colon, slash}
use Rattle.yspec.specs.types.Numerals.{minus, point, digit_zero, digits_from, number_in, is_negative, number_of_sign, is_point}
use Rattle.yspec.specs.types.Ranges.{Bound, least, greatest, number, Span, lies_in}
use Rattle.yspec.specs.types.Names.{enum_numbers, ends_white, is_enum_name, is_word}
use Rattle.yspec.specs.schema.Schema.{Status, current, deprecated, obsolete}
use Rattle.yspec.specs.edit.EditText.{longer, all_or_none, behind}

-- ---- white space

abbrev pub after_white : Text → Text
after_white [] = []
after_white (x ∷ xs) = if is_white x then after_white xs else x ∷ xs

abbrev pub without_last : ℕ → Text → Text
without_last x [] = if is_white x then [] else x ∷ []
without_last x (y ∷ ys) = x ∷ y ∷ ys

abbrev pub before_white : Text → Text
before_white [] = []
before_white (x ∷ xs) = without_last x (before_white xs)

-- without the white space at both ends
abbrev pub trimmed : Text → Text
trimmed t = before_white (after_white t)

-- what stands between white space
abbrev pub words_between : Text → List Text
words_between t = filter is_word (slice_split is_white t)

-- One or more with white space between them, and none at the ends.
abbrev pub listed : {A : Type 0} → (Text → Option A) → Text → Option (List A)
listed spelled t = if is_enum_name t then all_or_none spelled (words_between t) else None

-- ---- names

-- a name, with the prefix in front of it where it has one
pub record Name : Type 0 where
  pub prefix : Option Text
  pub identifier : Text

abbrev pub identifier_of : Text → Option Text
identifier_of t = if is_identifier t then Some t else None

abbrev pub name_cut : Text → Option ℕ → Name
name_cut t None = record { prefix = None; identifier = t }
name_cut t (Some n) = record { prefix = Some (take n t); identifier = drop (n + 1) t }

-- an identifier, or a prefix, a colon and an identifier (RFC 7950, 6.4 and 7.1.4)
abbrev pub name_of : Text → Option Name
name_of t = if is_name t then Some (name_cut t (position (λ x. x == colon) t)) else None

abbrev pub is_slash : ℕ → Bool
is_slash x = x == slash

-- names with slashes between them (descendant-schema-nodeid of RFC 7950, 6.5)
abbrev pub relative_path_of : Text → Option (List Name)
relative_path_of t = all_or_none name_of (slice_split is_slash t)

-- the same behind a slash (absolute-schema-nodeid)
abbrev pub absolute_path_of : Text → Option (List Name)
absolute_path_of t = option_and_then relative_path_of (behind slash t)

abbrev pub spaced_path_of : Text → Option (List Name)
spaced_path_of t = all_or_none (λ step. name_of (trimmed step)) (slice_split is_slash t)

-- the path of a leafref: white space may stand beside each slash (RFC 7950, 9.9.2)
abbrev pub leafref_path_of : Text → Option (List Name)
leafref_path_of t = if ends_white false t then None else option_and_then spaced_path_of (behind slash (after_white t))

-- the leafs of a list's key (RFC 7950, 7.8.2)
abbrev pub key_of : Text → Option (List Name)
key_of t = listed name_of t

-- the ways to the leafs of a unique (RFC 7950, 7.8.3)
abbrev pub unique_of : Text → Option (List (List Name))
unique_of t = listed relative_path_of t

-- ---- dates and words

abbrev pub stands_for : ℕ → ℕ → Bool
stands_for shape x = if shape == 100 then is_digit x else x == shape

-- whether a text looks like another, in which `d` is any digit
abbrev pub looks_like : Text → Text → Bool
looks_like [] [] = true
looks_like [] (x ∷ xs) = false
looks_like (shape ∷ shapes) [] = false
looks_like (shape ∷ shapes) (x ∷ xs) = stands_for shape x && looks_like shapes xs

abbrev pub date_of : Text → Option Text
date_of t = if looks_like (codes "dddd-dd-dd") t then Some t else None

abbrev pub flag_of : Text → Option Bool
flag_of t = if is_text t (codes "true") then Some true
    else (if is_text t (codes "false") then Some false else None)

-- RFC 7950, 7.21.2
abbrev pub status_of : Text → Option Status
status_of t = if is_text t (codes "current") then Some current
    else (if is_text t (codes "deprecated") then Some deprecated
    else (if is_text t (codes "obsolete") then Some obsolete else None))

-- RFC 7950, 7.7.7
pub data OrderedBy : Type 0 where
  by_system : OrderedBy
  by_user : OrderedBy

abbrev pub ordered_by_of : Text → Option OrderedBy
ordered_by_of t = if is_text t (codes "user") then Some by_user
    else (if is_text t (codes "system") then Some by_system else None)

-- ---- numbers

-- `0`, or digits with no zero in front
abbrev pub whole_of : Text → Option ℕ
whole_of [] = None
whole_of (c ∷ []) = number_in 10 (c ∷ [])
whole_of (c ∷ d ∷ ds) = if c == digit_zero then None else number_in 10 (c ∷ d ∷ ds)

abbrev pub between : ℕ → ℕ → ℕ → Option ℕ
between low high n = if nat_le low n && nat_le n high then Some n else None

abbrev pub number_limit : ℕ
number_limit = 4294967295

-- `min-elements`, and the position of a bit (RFC 7950, 7.7.5 and 9.7.4.2)
abbrev pub count_of : Text → Option ℕ
count_of t = option_and_then (between 0 number_limit) (whole_of t)

-- `max-elements`: no number where it is unbounded (RFC 7950, 7.7.6)
abbrev pub max_elements_of : Text → Option (Option ℕ)
max_elements_of t = if is_text t (codes "unbounded") then Some None
    else option_map Some (option_and_then (between 1 number_limit) (whole_of t))

abbrev pub after_minus : Text → Text
after_minus [] = []
after_minus (c ∷ cs) = if c == minus then cs else c ∷ cs

abbrev pub enum_number : ℤ → Option ℤ
enum_number z = if lies_in z enum_numbers then Some z else None

-- the value of an enum (RFC 7950, 9.6.4.2)
abbrev pub value_of : Text → Option ℤ
value_of t = option_and_then enum_number (option_map (number_of_sign (is_negative t)) (whole_of (after_minus t)))

-- RFC 7950, 9.3.4
abbrev pub fraction_digits_of : Text → Option ℕ
fraction_digits_of t = option_and_then (between 1 18) (whole_of t)

-- ---- ranges and lengths (RFC 7950, 9.2.4 and 9.4.4)

-- No type has a number as far from 0, or a number of as many digits after the point. What lies past is held as this.
abbrev pub far : ℕ
far = 2 ^ 64

abbrev pub most_places : ℕ
most_places = 19

abbrev pub number_bound : Bool → ℕ → ℕ → Bound
number_bound negative units places = number (number_of_sign negative (min units far)) (min places most_places)

-- the number that one digit or more make of the number so far
abbrev pub with_digits : ℕ → Text → Option ℕ
with_digits n [] = None
with_digits n (c ∷ cs) = digits_from 10 n (c ∷ cs)

abbrev pub bound_cut : Bool → Text → Option ℕ → Option Bound
bound_cut negative t None = option_map (λ n. number_bound negative n 0) (whole_of t)
bound_cut negative t (Some i) = let digits = drop (i + 1) t in option_map (λ n. number_bound negative n (length digits))
    (option_and_then (λ n. with_digits n digits) (whole_of (take i t)))

-- a sign may stand in front, and a point with digits behind
abbrev pub numeric_bound_of : Text → Option Bound
numeric_bound_of t = let magnitude = after_minus t in bound_cut (is_negative t) magnitude (position is_point magnitude)

abbrev pub bound_of : Text → Option Bound
bound_of t = if is_text t (codes "min") then Some least
    else (if is_text t (codes "max") then Some greatest else numeric_bound_of t)

-- what stands before and behind the first `..`
unfoldable pub cut_at_dots : Text → Option (Text × Text)
cut_at_dots [] = None
cut_at_dots (x ∷ xs) = if is_point x && begins point xs then Some ([], drop 1 xs)
    else option_map (longer x) (cut_at_dots xs)

abbrev pub span_between : Option Bound → Option Bound → Option Span
span_between first last = option_and_then (λ a. option_map (λ b. record { first = a; last = b }) last) first

-- one bound, or two with `..` between them
abbrev pub span_of : Text → Option Span
span_of t = option_map_or (λ p. span_between (bound_of (trimmed p.0)) (bound_of (trimmed p.1))) (cut_at_dots t)
    (span_between (bound_of (trimmed t)) (bound_of (trimmed t)))

abbrev pub is_bar : ℕ → Bool
is_bar x = x == 124

abbrev pub spans_of : Text → Option (List Span)
spans_of t = all_or_none span_of (slice_split is_bar t)

-- ---- forms

pub data Form : Type 0 where
  identifier_form : Form
  name_form : Form
  date_form : Form
  relative_path_form : Form
  absolute_path_form : Form
  leafref_path_form : Form
  key_form : Form
  unique_form : Form
  flag_form : Form
  status_form : Form
  ordered_by_form : Form
  count_form : Form
  max_elements_form : Form
  value_form : Form
  fraction_digits_form : Form
  spans_form : Form
  any_form : Form

-- whether a text is an argument of a form
abbrev pub fits : Form → Text → Bool
fits identifier_form t = is_some (identifier_of t)
fits name_form t = is_some (name_of t)
fits date_form t = is_some (date_of t)
fits relative_path_form t = is_some (relative_path_of t)
fits absolute_path_form t = is_some (absolute_path_of t)
fits leafref_path_form t = is_some (leafref_path_of t)
fits key_form t = is_some (key_of t)
fits unique_form t = is_some (unique_of t)
fits flag_form t = is_some (flag_of t)
fits status_form t = is_some (status_of t)
fits ordered_by_form t = is_some (ordered_by_of t)
fits count_form t = is_some (count_of t)
fits max_elements_form t = is_some (max_elements_of t)
fits value_form t = is_some (value_of t)
fits fraction_digits_form t = is_some (fraction_digits_of t)
fits spans_form t = is_some (spans_of t)
fits any_form t = true
