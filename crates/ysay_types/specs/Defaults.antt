-- What is said of the first leaf, leaf-list or choice of a line whose default isn't taken (C11; RFC 7950, 7.6.4, 7.7.4 and 7.9.3).
use Rattle.std.specs.Prelude.{ℕ, ℤ, ◌==◌, ◌++◌, ◌||◌, Bool, true, false, List, [], ◌∷◌, codes, Option, Some, None, option_and_then, unwrap_or, if◌then◌else◌}
use Rattle.std.specs.Option.{option_map_or}
use Rattle.yspec.specs.Forest.{Forest, first_of}
use Rattle.yspec.specs.text.Text.{Text, is_text}
use Rattle.yspec.specs.text.Statement.{Statement}
use Rattle.yspec.specs.types.Numerals.{default_integer_of}
use Rattle.yspec.specs.types.Ranges.{Part, holds}
use Rattle.ytype_numbers.specs.Words.{kept_in}
use Rattle.ysay_text.specs.Line.{shown}
use Rattle.ysay_text.specs.Near.{nearest}
use Rattle.ysay_names.specs.Prefixes.{is_among}
use Rattle.ysay_names.specs.Rows.{below_first, entries, is_word}
use Rattle.ysay_names.specs.Keys.{children}
use Rattle.ysay_types.specs.Quoted.{quoted}
use Rattle.ysay_types.specs.BuiltIns.{whole_numbers}
use Rattle.ysay_types.specs.Restrictions.{left_of, takes_text}
use Rattle.ysay_types.specs.Chain.{base_of, defaults_of, enums_of, first_argument, levels, range_of, rows_from, type_name}

abbrev pub default_text : Text → Text
default_text t = quoted (codes "default") t

-- ---- by the built-in type

abbrev pub near_text : Option Text → Text
near_text None = codes "."
near_text (Some near) = codes "; near it: " ++ (near ++ codes ".")

abbrev pub of_enums : Text → Text → List Text → Option Text
of_enums name t enums = if is_among enums t then None
    else Some (default_text t ++ (codes " isn't among the enums of " ++ (shown name ++ near_text (nearest t enums))))

abbrev pub is_flag : Text → Bool
is_flag t = is_text t (codes "true") || is_text t (codes "false")

abbrev pub of_flag : Text → Option Text
of_flag t = if is_flag t then None else Some (default_text t ++ codes " is neither true nor false.")

abbrev pub is_in_range : Part → ℤ → Text → Bool
is_in_range numbers z range = option_map_or (λ parts. holds parts z) (left_of numbers range) true

abbrev pub is_within : Part → Option Text → ℤ → Bool
is_within numbers range z = option_map_or (is_in_range numbers z) range true

abbrev pub is_taken : Part → Option Text → Text → Bool
is_taken numbers range t = option_map_or (is_within numbers range) (kept_in numbers (default_integer_of t)) false

abbrev pub base_text : Text → Text → Text
base_text name base = if is_text name base then [] else codes ", derived from " ++ base

abbrev pub range_text : Part → Option Text → Text
range_text numbers None = takes_text numbers
range_text numbers (Some range) = codes " with " ++ (quoted (codes "range") range ++ codes ".")

abbrev pub type_text : Text → Text → Option Text → Part → Text
type_text name base range numbers = codes ": its type is " ++ (shown name ++ (base_text name base ++ range_text numbers range))

abbrev pub not_taken : Text → Text → Text → Option Text → Part → Text
not_taken name t base range numbers = default_text t ++ type_text name base range numbers

abbrev pub of_integer : Text → Text → Text → Option Text → Part → Option Text
of_integer name t base range numbers = if is_taken numbers range t then None else Some (not_taken name t base range numbers)

abbrev pub of_base : List (Forest Statement) → Text → Text → Text → Option Text
of_base rows name t base = if is_text base (codes "enumeration") then of_enums name t (enums_of rows)
    else (if is_text base (codes "boolean") then of_flag t
    else option_and_then (of_integer name t base (range_of rows)) (whole_numbers base))

abbrev pub of_values : List (Forest Statement) → Text → Text → List Text → Option Text
of_values rows name base [] = None
of_values rows name base (t ∷ ts) = first_of (of_base rows name t base) (of_values rows name base ts)

abbrev pub of_named : List (Forest Statement) → Text → Text → Option Text
of_named rows base name = of_values rows name base (defaults_of rows)

abbrev pub of_based : List (Forest Statement) → Forest Statement → Text → Option Text
of_based rows below base = option_and_then (of_named rows base) (type_name below)

abbrev pub of_rows : Forest Statement → List (Forest Statement) → Option Text
of_rows below rows = option_and_then (of_based rows below) (base_of rows)

-- ---- by what stands beside it

abbrev pub is_mandatory : Forest Statement → Bool
is_mandatory below = option_map_or (λ t. is_text t (codes "true")) (first_argument (codes "mandatory") below) false

abbrev pub of_mandatory : Forest Statement → Text → Option Text
of_mandatory below t = if is_mandatory below then Some (default_text t ++ codes " stands beside mandatory true.") else None

abbrev pub beside : Forest Statement → Option Text
beside below = option_and_then (of_mandatory below) (first_argument (codes "default") below)

abbrev pub no_case : Text → List Text → Option Text
no_case t names = if is_among names t then None
    else Some (default_text t ++ (codes " names no case that stands here" ++ near_text (nearest t names)))

abbrev pub of_choice : Forest Statement → Option Text
of_choice below = option_and_then (λ t. no_case t (children below)) (first_argument (codes "default") below)

-- ---- of a line

abbrev pub has_type : Statement → Bool
has_type s = is_word (codes "leaf") s || is_word (codes "leaf-list") s

abbrev pub of_typed : Forest Statement → Forest Statement → Forest Statement → Option Text
of_typed modules around below = first_of (beside below) (of_rows below (rows_from levels modules (below, around)))

abbrev pub of_chosen : Forest Statement → Option Text
of_chosen below = first_of (beside below) (of_choice below)

abbrev pub of_node : Forest Statement → Forest Statement → Statement × Forest Statement → Option Text
of_node modules around e = if has_type e.0 then of_typed modules around e.1
    else (if is_word (codes "choice") e.0 then of_chosen e.1 else None)

abbrev pub of_entry : ℕ → Forest Statement → Forest Statement → Statement × Forest Statement → Option Text
of_entry line modules around e = if e.0.line == line then of_node modules around e else None

abbrev pub of_entries : ℕ → Forest Statement → Forest Statement → List (Statement × Forest Statement) → Text
of_entries line modules around [] = []
of_entries line modules around (e ∷ es) = unwrap_or (of_entry line modules around e) (of_entries line modules around es)

-- what is said of a line of the statements of a module of a set
unfoldable pub of_line : ℕ → Forest Statement → Forest Statement → Text
of_line line modules top = of_entries line modules (below_first top) (entries (below_first top))
