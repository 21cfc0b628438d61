-- Values that come twice, defaults that aren't right, and nodes with wrong defaults, by what is known of them.
use Rattle.std.specs.Prelude.{Bool, false, not, ◌&&◌, ◌||◌, List, [], ◌∷◌, Option, option_and_then}
use Rattle.std.specs.List.{list_any}
use Rattle.std.specs.Option.{option_map_or}
use Rattle.yspec.specs.types.Types.{YangType, Val}
use Rattle.yspec.specs.linking.Planned.{Planned, Plan}
use Rattle.yspec.specs.linking.Source.{Stated}
use Rattle.yspec_wide.specs.Language.{Language}
use Rattle.yspec_wide.specs.Types.{are_wrong_defaults_in, unmarked, is_wrong_default_in, same_if_any, type_of_kept}
use Rattle.yschema_types.specs.ModulesView.{value_by}
use Rattle.yschema_types.specs.declared.modules.ModuleTable.{ModuleTable}

-- whether one of a list is the same as a later one
abbrev pub comes_twice : {A : Type 0} → (A → A → Bool) → List A → Bool
comes_twice same [] = false
comes_twice same (x ∷ xs) = list_any (same x) xs || comes_twice same xs

-- what a type, where there is one, makes of a text of a module
abbrev pub value_if_any : ModuleTable → Option YangType → Stated → Option Val
value_if_any table type t = option_and_then (λ u. value_by table u t) type

-- whether a type takes a text, and takes it alike over the names that bear no condition
abbrev pub is_right_by : ModuleTable → YangType → Option YangType → Stated → Bool
is_right_by table type unmarked t = same_if_any (value_by table type t) (value_if_any table unmarked t)

abbrev pub is_refused_by : ModuleTable → YangType → Option YangType → Stated → Bool
is_refused_by table type unmarked t = not (is_right_by table type unmarked t)

-- the type of a node over the names that bear no condition
abbrev pub unmarked_type : Language → Plan → Planned → Option YangType
unmarked_type language plan p = type_of_kept (unmarked language) plan p

-- of a leaf, by whether it is a key, and its type
abbrev pub wrong_leaf : Language → Plan → Planned → Bool → Option YangType → Bool
wrong_leaf language plan p is_key type = not is_key && option_map_or (is_wrong_default_in language plan p) type false

-- of a leaf-list, by its type
abbrev pub wrong_leaf_list : Language → Plan → Planned → Option YangType → Bool
wrong_leaf_list language plan p type = option_map_or (are_wrong_defaults_in language plan p) type false
