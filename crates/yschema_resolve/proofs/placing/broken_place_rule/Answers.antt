use Rattle.std.proofs.Common.{ap, ◌∙◌}
use Rattle.yspec.specs.schema.Breaks.{least_from}
use Rattle.yspec_wide.specs.Operations.{bars_operations}
use Rattle.ylink_grammar.specs.BreakView.{seen}
use Rattle.ylink_grammar.specs.LanguageView.{language_view}
use Rattle.yschema_plan.specs.PlanView.{view}
use Rattle.yschema_resolve.proofs.GuardLemmas.{all_under, tells_others}
use Rattle.yschema_resolve.proofs.PlaceLemmas.{places_same}
use Rattle.yschema_resolve.proofs.placing.broken_place_rule.Goals as goal

pub returns : goal.returns
returns c =
    let l = language_view c.args.language.now in
    let test = bars_operations l in
    let free = c.as_slice.result.now in
    let barred = c.as_slice-2.ensures.value ∙ (c.in_ok-barred.ensures ∙ all_under test c.args.plan.now free
    (tells_others free test (view c.args.plan.now) (c.as_slice.ensures.value ∙ c.in_ok-free.ensures))) in
    c.least_of_places.ensures ∙ ap (least_from (seen c.args.so_far)) (places_same l c.args.plan.now c.as_slice-2.result.now barred)
