use Rattle.std.proofs.Common.{ap, ◌∙◌}
use Rattle.std.proofs.lemmas.Result.{IfOk-weaker}
use Rattle.yspec_wide.specs.Types.{default_texts_in}
use Rattle.ylink_grammar.specs.LanguageView.{language_view}
use Rattle.yschema_plan.specs.NodesView.{node_view}
use Rattle.yschema_plan.specs.PlanView.{view}
use Rattle.yschema.proofs.MakingLemmas.{made_by, nothing_made}
use Rattle.yschema.proofs.making.values_of.Goals as goal

pub returns-in-Some : goal.returns-in-Some
returns-in-Some c =
    let plan = view c.args.plan.now in
    let p = node_view c.args.node in
    let type = c.in-Some.ensures (language_view c.args.language.now) plan p c.requires.of_plan c.requires.stands in
    IfOk-weaker c.default_values.result _ _ (λ values so. so ∙ ap (λ t. made_by plan t (default_texts_in (language_view c.args.language.now) plan p)) type) (c.default_values.ensures (language_view c.args.language.now) plan c.args.node.number c.requires.of_plan)

pub returns-in-None : goal.returns-in-None
returns-in-None c =
    let plan = view c.args.plan.now in
    let p = node_view c.args.node in
    let type = c.in-None.ensures (language_view c.args.language.now) plan p c.requires.of_plan c.requires.stands in
    c.new.ensures.items ∙ (nothing_made plan (default_texts_in (language_view c.args.language.now) plan p) ∙ ap (λ t. made_by plan t (default_texts_in (language_view c.args.language.now) plan p)) type)
