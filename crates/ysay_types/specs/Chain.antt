-- The types from which the type of a node is derived, by the texts of modules (RFC 7950, 7.3).
use Rattle.std.specs.Prelude.{ℕ, List, [], ◌∷◌, codes, Option, Some, None, option_map, option_and_then, if◌then◌else◌}
use Rattle.std.specs.Option.{option_map_or}
use Rattle.yspec.specs.Forest.{Forest, end, node, first_of}
use Rattle.yspec.specs.text.Text.{Text}
use Rattle.yspec.specs.text.Statement.{Statement}
use Rattle.ysay_names.specs.Prefixes.{is_among}
use Rattle.ysay_names.specs.Rows.{arguments_called, entries, is_word, only_called}
use Rattle.ysay_names.specs.Names.{built_in_names, module_meant, name_given, prefix_given}

-- the first statement of a row with a keyword
abbrev pub first_called : Text → Forest Statement → Option (Statement × Forest Statement)
first_called word end = None
first_called word (node s below after) = if is_word word s then Some (s, below) else first_called word after

abbrev pub first_argument : Text → Forest Statement → Option Text
first_argument word below = option_and_then (λ e. e.0.argument) (first_called word below)

-- what the `type` of a row names
abbrev pub type_name : Forest Statement → Option Text
type_name below = first_argument (codes "type") below

-- what stands below the `type` of a row
abbrev pub below_type : Forest Statement → Forest Statement
below_type below = option_map_or (λ e. e.1) (first_called (codes "type") below) end

-- ---- typedefs

-- what stands below a typedef, and around it in its module
abbrev pub Defined : Type 0
Defined = Forest Statement × Forest Statement

-- of a typedef that is the only one of its name in its module
abbrev pub typedef_in : Text → Forest Statement → Option Defined
typedef_in name around = option_map (λ e. (e.1, around)) (only_called (codes "typedef") name (entries around))

abbrev pub typedef_meant : Forest Statement → Forest Statement → Text → Option Defined
typedef_meant modules around t = if is_among built_in_names t then None
    else option_and_then (typedef_in (name_given t)) (module_meant modules around (prefix_given t))

-- so many types are followed
abbrev pub levels : List ℕ
levels = 1 ∷ 2 ∷ 3 ∷ 4 ∷ 5 ∷ 6 ∷ 7 ∷ 8 ∷ []

-- what stands below a node, the typedef that its type names, the one that this one's type names, and so on
abbrev pub rows_from : List ℕ → Forest Statement → Defined → List (Forest Statement)
rows_from [] modules d = []
rows_from (level ∷ more) modules d = d.0 ∷ option_map_or (rows_from more modules)
    (option_and_then (typedef_meant modules d.1) (type_name d.0)) []

-- ---- what is said along the way

abbrev pub built_in_of : Forest Statement → Option Text
built_in_of below = option_and_then (λ t. if is_among built_in_names t then Some t else None) (type_name below)

-- the built-in type with which the way ends
abbrev pub base_of : List (Forest Statement) → Option Text
base_of [] = None
base_of (r ∷ rs) = first_of (built_in_of r) (base_of rs)

abbrev pub or_others : List Text → List Text → List Text
or_others [] others = others
or_others (t ∷ ts) others = t ∷ ts

abbrev pub own_defaults : Forest Statement → List Text
own_defaults below = arguments_called (codes "default") below

-- the defaults that are stated first
abbrev pub defaults_of : List (Forest Statement) → List Text
defaults_of [] = []
defaults_of (r ∷ rs) = or_others (own_defaults r) (defaults_of rs)

-- the enums that are stated first
abbrev pub enums_of : List (Forest Statement) → List Text
enums_of [] = []
enums_of (r ∷ rs) = or_others (arguments_called (codes "enum") (below_type r)) (enums_of rs)

-- the range that is stated first
abbrev pub range_of : List (Forest Statement) → Option Text
range_of [] = None
range_of (r ∷ rs) = first_of (first_argument (codes "range") (below_type r)) (range_of rs)
