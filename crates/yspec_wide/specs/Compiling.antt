-- The phases of compiling in a language: which rule is told, and the schema where none is broken. What is off goes behind C14,
-- C13 and C24, and ahead of C11, C12 and C15 to C17; so do operations.
use Rattle.std.specs.Prelude.{◌++◌, ◌&&◌, ◌||◌, Bool, List, [], ◌∷◌, Result, Ok, Err, nat_lt}
use Rattle.std.specs.List.{flat_map, list_any}
use Rattle.std.specs.Option.{option_map_or}
use Rattle.yspec.specs.Forest.{Forest, levels}
use Rattle.yspec.specs.text.Statement.{Statement}
use Rattle.yspec.specs.linking.Source.{Source}
use Rattle.yspec.specs.linking.Imports.{repeated_prefixes, import_breaks}
use Rattle.yspec.specs.linking.Prefixes.{prefix_breaks}
use Rattle.yspec.specs.linking.Scopes.{taken_breaks, lost_breaks}
use Rattle.yspec.specs.linking.Circles.{import_circles, definition_circles}
use Rattle.yspec.specs.linking.DerivedTypes.{type_breaks}
use Rattle.yspec.specs.linking.Planned.{Planned, Plan, at_top, planned, nodes_of}
use Rattle.yspec.specs.linking.NodeBreaks.{name_breaks, config_breaks, tuple_breaks, reference_breaks}
use Rattle.yspec.specs.linking.Compiling.{schema_modules, is_too_deep}
use Rattle.yspec.specs.schema.Breaks.{Break, module_breaks, limit_breaks, node_limit, low_level_limit, first_broken}
use Rattle.yspec.specs.schema.Schema.{Schema}
use Rattle.yspec_wide.specs.Language.{Language, core, rfc}
use Rattle.yspec_wide.specs.StatementBreaks.{statement_phase_in}
use Rattle.yspec_wide.specs.Sources.{sources_in, is_anything}
use Rattle.yspec_wide.specs.Features.{condition_prefix_breaks, taken_feature_breaks, condition_breaks}
use Rattle.yspec_wide.specs.NodeCounts.{node_count_in}
use Rattle.yspec_wide.specs.Expansion.{augmented_in, unfit_breaks_in, augment_breaks_in}
use Rattle.yspec_wide.specs.Operations.{place_breaks}
use Rattle.yspec_wide.specs.Standing.{standing}
use Rattle.yspec_wide.specs.VersionBreaks.{version_import_breaks, version_type_breaks, key_break}
use Rattle.yspec_wide.specs.Patterns.{pattern_breaks}
use Rattle.yspec_wide.specs.Types.{width_breaks, default_breaks_in, schema_nodes_in}
use Rattle.yspec_wide.specs.Additions.{addition_breaks_in}

-- all nodes, and those that stand
abbrev pub whole_plan : Language → Forest Source → Plan
whole_plan language modules = record { modules = modules; nodes = planned 0 at_top (augmented_in language modules).0 }

abbrev pub plan_in : Language → Forest Source → Plan
plan_in language modules =
    record { modules = modules; nodes = planned 0 at_top (standing language modules (augmented_in language modules).0) }

abbrev pub schema_of_plan_in : Language → Plan → Schema
schema_of_plan_in language plan = record { modules = schema_modules plan plan.modules; nodes = schema_nodes_in language plan }

abbrev pub schema_in : Language → Forest Statement → Schema
schema_in language modules = schema_of_plan_in language (plan_in language (sources_in language modules))

-- ---- the phases

abbrev pub names_phase_in : Language → Forest Statement → Forest Source → List Break
names_phase_in language modules sources = prefix_breaks sources ++ (condition_prefix_breaks language sources
    ++ (repeated_prefixes sources ++ (module_breaks 0 [] modules ++ (taken_breaks sources ++ taken_feature_breaks language sources))))

abbrev pub meanings_phase_in : Language → Forest Source → List Break
meanings_phase_in language sources = import_breaks sources ++ (version_import_breaks language sources ++ (lost_breaks sources
    ++ (import_circles sources ++ (definition_circles sources ++ condition_breaks language sources))))

abbrev pub linking_phases_in : Language → Forest Statement → List (List Break)
linking_phases_in language modules = let sources = sources_in language modules in
    statement_phase_in language modules
    ∷ names_phase_in language modules sources
    ∷ meanings_phase_in language sources
    ∷ (type_breaks sources ++ (version_type_breaks language sources ++ pattern_breaks language sources)) ∷ []

-- C11, C12, C16, C17, and C18 of a union
abbrev pub own_breaks_in : Language → Plan → Planned → List Break
own_breaks_in language plan p = config_breaks plan p ++ (tuple_breaks plan p ++ (key_break language plan p ++ (reference_breaks plan p
    ++ (width_breaks language plan p ++ default_breaks_in language plan p))))

-- too many nodes, or too many levels of them; fewer may there be where values nest below them
abbrev pub is_too_deep_in : Language → Plan → Bool
is_too_deep_in core plan = is_too_deep plan.nodes
is_too_deep_in (rfc wide) plan = is_too_deep plan.nodes
    || (nat_lt low_level_limit (levels plan.nodes) && list_any (λ p. is_anything (rfc wide) p.part.source) (nodes_of plan))

-- those of the nodes that stand, and C15 of all augments
abbrev pub node_breaks_in : Language → Plan → Plan → List Break
node_breaks_in language whole plan =
    flat_map (own_breaks_in language plan) (nodes_of plan) ++ flat_map (addition_breaks_in language whole) (nodes_of whole)

-- names of siblings, and operations out of place
abbrev pub place_phase_in : Language → Plan → List Break
place_phase_in language whole = name_breaks whole ++ flat_map (place_breaks language whole) (nodes_of whole)

abbrev pub phases_of_plan_in : Language → Forest Statement → Plan → Plan → List (List Break)
phases_of_plan_in language modules whole plan = limit_breaks (nat_lt node_limit (node_count_in language plan.modules)) modules
    ∷ (unfit_breaks_in language plan.modules ++ augment_breaks_in language plan.modules)
    ∷ place_phase_in language whole
    ∷ node_breaks_in language whole plan
    ∷ limit_breaks (is_too_deep_in language plan) modules ∷ []

-- the statements of a set of modules that links in a language, or what is told
unfoldable pub linked_in : Language → Forest Statement → Result (Forest Source) Break
linked_in language modules =
    option_map_or Err (first_broken (linking_phases_in language modules)) (Ok (sources_in language modules))

abbrev pub phases_in : Language → Forest Statement → List (List Break)
phases_in language modules = let sources = sources_in language modules in
    linking_phases_in language modules ++ phases_of_plan_in language modules (whole_plan language sources) (plan_in language sources)

-- the schema of a set of modules in a language, or what is told
unfoldable pub compiled_in : Language → Forest Statement → Result Schema Break
compiled_in language modules = option_map_or Err (first_broken (phases_in language modules)) (Ok (schema_in language modules))
