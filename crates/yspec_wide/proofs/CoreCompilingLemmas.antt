-- Under the core a set of modules compiles to the same schema, or the same rule is told of it.
use Rattle.std.proofs.Common.{◌≡◌, ◌++◌, List, [], ◌∷◌, Ok, Err, ap, ap₂, ◌∙◌, nat_lt}
use Rattle.std.proofs.Common.{append-nil, refl}
use Rattle.std.specs.List.{flat_map}
use Rattle.std.specs.Option.{option_map_or}
use Rattle.yspec.specs.Forest.{Forest}
use Rattle.yspec.specs.text.Statement.{Statement}
use Rattle.yspec.specs.linking.Source.{Source, sources_of}
use Rattle.yspec.specs.linking.Expansion.{unfit_breaks}
use Rattle.yspec.specs.linking.Augments.{augment_breaks}
use Rattle.yspec.specs.linking.NodeCounts.{node_count}
use Rattle.yspec.specs.linking.Parts.{Part}
use Rattle.yspec.specs.linking.Planned.{Plan, Planned, at_top, planned, nodes_of}
use Rattle.yspec.specs.linking.NodeBreaks.{name_breaks}
use Rattle.yspec.specs.linking.Compiling.{plan_of, schema_modules, schema_of_plan, schema_of, is_too_deep, phases_of_plan, linking_phases, phases, compiled}
use Rattle.yspec.specs.schema.Breaks.{Break, limit_breaks, node_limit, or_told, first_broken}
use Rattle.yspec_wide.specs.Language.{core}
use Rattle.yspec_wide.specs.Expansion.{augmented_in, unfit_breaks_in, augment_breaks_in}
use Rattle.yspec_wide.specs.Operations.{place_breaks}
use Rattle.yspec_wide.specs.Compiling.{whole_plan, plan_in, schema_of_plan_in, schema_in, node_breaks_in, place_phase_in, phases_of_plan_in, phases_in, compiled_in}
use Rattle.yspec_wide.proofs.CoreLemmas.{kept_of_all_alike}
use Rattle.yspec_wide.proofs.CoreLinkingLemmas.{linking_alike}
use Rattle.yspec_wide.proofs.CoreCountLemmas.{count_alike}
use Rattle.yspec_wide.proofs.CoreExpansionLemmas.{augmented_alike, unfit_alike, augment_breaks_alike, standing_alike}
use Rattle.yspec_wide.proofs.CoreNodeLemmas.{schema_nodes_alike, node_breaks_alike}

-- ---- plans

plan_with : Forest Source → Forest Part → Plan
plan_with modules parts = record { modules = modules; nodes = planned 0 at_top parts }

whole_alike : (modules : Forest Source) → whole_plan core modules ≡ plan_of modules
unfolding plan_with
whole_alike modules = ap (λ done. plan_with modules done.0) (augmented_alike modules)

plan_alike : (modules : Forest Source) → plan_in core modules ≡ plan_of modules
unfolding plan_with
plan_alike modules = ap (plan_with modules) (standing_alike modules (augmented_in core modules).0) ∙ whole_alike modules

-- ---- the schema

schema_of_plan_alike : (plan : Plan) → schema_of_plan_in core plan ≡ schema_of_plan plan
schema_of_plan_alike plan = ap (λ nodes. record { modules = schema_modules plan plan.modules; nodes = nodes }) (schema_nodes_alike plan)

schema_alike : (modules : Forest Statement) → schema_in core modules ≡ schema_of modules
schema_alike modules = ap (λ sources. schema_of_plan_in core (plan_in core sources)) (kept_of_all_alike modules)
    ∙ (ap (schema_of_plan_in core) (plan_alike (sources_of modules)) ∙ schema_of_plan_alike (plan_of (sources_of modules)))

-- ---- what is told

told_later : (xs ys zs : List (List Break)) → first_broken ys ≡ first_broken zs → first_broken (xs ++ ys) ≡ first_broken (xs ++ zs)
told_later [] ys zs e = e
told_later (x ∷ xs) ys zs e = ap (or_told x) (told_later xs ys zs e)

none_placed : (plan : Plan) (nodes : List Planned) → flat_map (place_breaks core plan) nodes ≡ []
none_placed plan [] = refl
none_placed plan (p ∷ nodes) = none_placed plan nodes

pub places_alike : (plan : Plan) → place_phase_in core plan ≡ name_breaks plan
places_alike plan = ap (λ others. name_breaks plan ++ others) (none_placed plan (nodes_of plan)) ∙ append-nil (name_breaks plan)

plan_told : (modules : Forest Statement) (plan : Plan)
    → first_broken (phases_of_plan_in core modules plan plan) ≡ first_broken (phases_of_plan modules plan)
plan_told modules plan = ap (λ count. or_told (limit_breaks (nat_lt node_limit count) modules) (first_broken (later_phases plan))) (count_alike plan.modules)
    ∙ ap (or_told (limit_breaks (nat_lt node_limit (node_count plan.modules)) modules))
    (ap (λ named. or_told (unfit_breaks_in core plan.modules ++ augment_breaks_in core plan.modules) (or_told named
    (or_told (node_breaks_in core plan plan) (or_told (limit_breaks (is_too_deep plan.nodes) modules) (first_broken []))))) (places_alike plan)
    ∙ ap₂ (λ unfit left. or_told (unfit ++ left) (or_told (name_breaks plan)
    (or_told (node_breaks_in core plan plan) (or_told (limit_breaks (is_too_deep plan.nodes) modules) (first_broken [])))))
    (unfit_alike plan.modules) (augment_breaks_alike plan.modules)
    ∙ ap (λ later. or_told (unfit_breaks plan.modules ++ augment_breaks plan.modules) (or_told (name_breaks plan) later))
    (node_breaks_alike plan (or_told (limit_breaks (is_too_deep plan.nodes) modules) (first_broken []))))
  where
    later_phases : Plan → List (List Break)
    later_phases plan = (unfit_breaks_in core plan.modules ++ augment_breaks_in core plan.modules)
        ∷ place_phase_in core plan ∷ node_breaks_in core plan plan ∷ limit_breaks (is_too_deep plan.nodes) modules ∷ []

pub told_alike : (modules : Forest Statement) → first_broken (phases_in core modules) ≡ first_broken (phases modules)
told_alike modules =
    ap₂ (λ linking sources. first_broken (linking ++ phases_of_plan_in core modules (whole_plan core sources) (plan_in core sources)))
    (linking_alike modules) (kept_of_all_alike modules)
    ∙ (ap₂ (λ whole plan. first_broken (linking_phases modules ++ phases_of_plan_in core modules whole plan))
    (whole_alike (sources_of modules)) (plan_alike (sources_of modules))
    ∙ told_later (linking_phases modules)
    (phases_of_plan_in core modules (plan_of (sources_of modules)) (plan_of (sources_of modules)))
    (phases_of_plan modules (plan_of (sources_of modules))) (plan_told modules (plan_of (sources_of modules))))

pub compiled_alike : (modules : Forest Statement) → compiled_in core modules ≡ compiled modules
unfolding compiled_in compiled
compiled_alike modules = ap₂ (λ told schema. option_map_or Err told (Ok schema)) (told_alike modules) (schema_alike modules)
