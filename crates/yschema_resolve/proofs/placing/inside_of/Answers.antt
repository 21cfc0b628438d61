use Rattle.std.proofs.Common.{◌∙◌}
use Rattle.std.proofs.lemmas.Result.{IfOk-weaker}
use Rattle.yspec_wide.specs.Operations.{is_operation_node}
use Rattle.ylink_grammar.specs.LanguageView.{language_view}
use Rattle.yschema_plan.specs.PlanView.{view}
use Rattle.yschema_resolve.proofs.GuardLemmas.{all_under, tells_others}
use Rattle.yschema_resolve.proofs.placing.inside_of.Goals as goal

pub returns : goal.returns
returns c =
    let test = is_operation_node (language_view c.args.language.now) in
    let others = c.as_slice.result.now in
    IfOk-weaker c.guarded_of.result _ _ (λ inside e. e ∙ all_under test c.args.plan.now others
    (tells_others others test (view c.args.plan.now) (c.as_slice.ensures.value ∙ c.in_ok-others.ensures))) c.guarded_of.ensures
