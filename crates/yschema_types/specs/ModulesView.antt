-- What the modules of a set call themselves and one another, as the specification's.
use Rattle.std.specs.Prelude.{◌≡◌, ℕ, List, [], ◌∷◌, map, slice_get, Option}
use Rattle.std.specs.Option.{option_map_or}
use Rattle.std.specs.String.{string_bytes}
use Rattle.yspec.specs.Forest.{Forest, end, node}
use Rattle.yspec.specs.types.Identities.{ModuleNames}
use Rattle.yspec.specs.types.Types.{YangType, Val}
use Rattle.yspec.specs.types.Values.{value_of_text}
use Rattle.yspec.specs.linking.Source.{Source, Stated, argument_in}
use Rattle.yspec.specs.linking.Identities.{names_of, prefixed_in}
use Rattle.ytype.specs.Identities.{pair_view}
use Rattle.yschema_types.specs.declared.modules.NamedModule.{NamedModule}
use Rattle.yschema_types.specs.declared.modules.ModuleTable.{ModuleTable}

abbrev pub named_view : NamedModule → ModuleNames
named_view m = record { own = string_bytes m.own.value; prefixed = map pair_view m.prefixed.items }

-- what a `module` statement calls itself and others
abbrev pub names_by : Source → Forest Source → ModuleNames
names_by s below = record { own = argument_in s; prefixed = prefixed_in (argument_in s) below }

-- and each of a row
abbrev pub names_in_row : Forest Source → List ModuleNames
names_in_row end = []
names_in_row (node s below after) = names_by s below ∷ names_in_row after

-- what is said of a module that isn't there
abbrev pub nothing_named : ModuleNames
nothing_named = record { own = []; prefixed = [] }

abbrev pub names_at : List NamedModule → ℕ → ModuleNames
names_at modules number = option_map_or named_view (slice_get modules number) nothing_named

abbrev pub names_in : ModuleTable → ℕ → ModuleNames
names_in table number = names_at table.modules.items number

-- These are the names of each module of a set.
abbrev pub AreNamesOf : ModuleTable → Forest Source → Type 0
AreNamesOf table modules = (number : ℕ) → names_in table number ≡ names_of modules number

-- what a type makes of a text of a module
abbrev pub value_by : ModuleTable → YangType → Stated → Option Val
value_by table type t = value_of_text (names_in table t.home) type t.text
