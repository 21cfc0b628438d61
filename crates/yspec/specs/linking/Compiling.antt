-- The phases of compiling a set of modules: which rule is told, and the schema where none is broken.
use Rattle.std.specs.Prelude.{◌≡◌, ◌++◌, ◌||◌, ℕ, Bool, List, [], ◌∷◌, Option, Some, None, Result, Ok, Err, filter, map, nat_lt, option_and_then, option_map, unwrap_or}
use Rattle.std.specs.List.{filter_map}
use Rattle.std.specs.Option.{option_map_or}
use Rattle.yspec.specs.Forest.{Forest, end, node, size, levels}
use Rattle.yspec.specs.text.Statement.{Statement}
use Rattle.yspec.specs.linking.Keyword as word
use Rattle.yspec.specs.linking.Source.{Source, sources_of, argument_in, argument_with}
use Rattle.yspec.specs.linking.StatementBreaks.{statement_phase}
use Rattle.yspec.specs.linking.Imports.{repeated_prefixes, import_breaks}
use Rattle.yspec.specs.linking.Prefixes.{prefix_breaks}
use Rattle.yspec.specs.linking.Scopes.{taken_breaks, lost_breaks}
use Rattle.yspec.specs.linking.Circles.{import_circles, definition_circles}
use Rattle.yspec.specs.linking.DerivedTypes.{type_breaks}
use Rattle.yspec.specs.linking.Expansion.{unfit_breaks}
use Rattle.yspec.specs.linking.Augments as augments
use Rattle.yspec.specs.linking.Augments.{augments_in, augmented, augment_breaks, target_steps}
use Rattle.yspec.specs.linking.NodeCounts.{node_count}
use Rattle.yspec.specs.linking.Planned.{Planned, Plan, at_top, planned, nodes_of, same_number, way}
use Rattle.yspec.specs.linking.SchemaNodes.{number_in, schema_nodes}
use Rattle.yspec.specs.linking.NodeBreaks.{name_breaks, node_breaks}
use Rattle.yspec.specs.schema.Breaks.{Break, module_breaks, limit_breaks, node_limit, level_limit, first_broken}
use Rattle.yspec.specs.schema.Schema.{Schema, SchemaModule, Augment}

-- the nodes of a set of modules, in order of definition
abbrev pub plan_of : Forest Source → Plan
plan_of modules = record { modules = modules; nodes = planned 0 at_top (augmented modules).0 }

-- ---- modules with their augments

abbrev pub last : List Planned → Option Planned
last [] = None
last (p ∷ []) = Some p
last (p ∷ q ∷ others) = last (q ∷ others)

abbrev pub target_found : Plan → augments.Augment → Option Planned
target_found plan a = option_and_then last (way plan None (target_steps plan.modules a))

abbrev pub numbers_added : Plan → augments.Augment → List ℕ
numbers_added plan a = map number_in (filter (λ p. same_number (Some a.source.number) p.part.added_by) (nodes_of plan))

abbrev pub schema_augment : Plan → augments.Augment → Option Augment
schema_augment plan a =
    option_map (λ p. record { target = p.number; nodes = numbers_added plan a }) (target_found plan a)

abbrev pub schema_module : Plan → Source → Forest Source → SchemaModule
schema_module plan s below = record {
  name = argument_in s;
  prefix = unwrap_or (argument_with word.prefix_word below) [];
  augments = filter_map (schema_augment plan) (augments_in below);
}

abbrev pub schema_modules : Plan → Forest Source → List SchemaModule
schema_modules plan end = []
schema_modules plan (node s below after) = schema_module plan s below ∷ schema_modules plan after

abbrev pub schema_of_plan : Plan → Schema
schema_of_plan plan = record { modules = schema_modules plan plan.modules; nodes = schema_nodes plan }

abbrev pub schema_of : Forest Statement → Schema
schema_of modules = schema_of_plan (plan_of (sources_of modules))

-- ---- the phases behind that of the table of statements

-- too many nodes, or too many levels of them
abbrev pub is_too_deep : Forest Planned → Bool
is_too_deep nodes = nat_lt node_limit (size nodes) || nat_lt level_limit (levels nodes)

-- the number of nodes is counted before any grouping is expanded
abbrev pub phases_of_plan : Forest Statement → Plan → List (List Break)
phases_of_plan modules plan = limit_breaks (nat_lt node_limit (node_count plan.modules)) modules
    ∷ (unfit_breaks plan.modules ++ augment_breaks plan.modules)
    ∷ name_breaks plan
    ∷ node_breaks plan
    ∷ limit_breaks (is_too_deep plan.nodes) modules ∷ []

-- prefixes that no module declares, and names that are given twice
abbrev pub names_phase : Forest Statement → Forest Source → List Break
names_phase modules sources =
    prefix_breaks sources ++ (repeated_prefixes sources ++ (module_breaks 0 [] modules ++ taken_breaks sources))

-- imports, types and groupings that are not found, and what refers to itself by way of others
abbrev pub meanings_phase : Forest Source → List Break
meanings_phase sources =
    import_breaks sources ++ (lost_breaks sources ++ (import_circles sources ++ definition_circles sources))

-- The rules broken in each phase of linking, of the row of `module` statements.
abbrev pub linking_phases : Forest Statement → List (List Break)
linking_phases modules = let sources = sources_of modules in
    statement_phase modules ∷ names_phase modules sources ∷ meanings_phase sources ∷ type_breaks sources ∷ []

-- the statements of a set of modules that links, or what is told
unfoldable pub linked : Forest Statement → Result (Forest Source) Break
linked modules = option_map_or Err (first_broken (linking_phases modules)) (Ok (sources_of modules))

-- The rules broken in each phase of compiling. A code is told only where no earlier phase has one.
abbrev pub phases : Forest Statement → List (List Break)
phases modules = linking_phases modules ++ phases_of_plan modules (plan_of (sources_of modules))

-- the schema of a set of modules, or what is told
unfoldable pub compiled : Forest Statement → Result Schema Break
compiled modules = option_map_or Err (first_broken (phases modules)) (Ok (schema_of modules))

-- the schema of some set of modules
abbrev pub IsCompiled : Schema → Type 0
IsCompiled schema = (modules : Forest Statement) × (compiled modules ≡ Ok schema)
