use Rattle.std.proofs.Common.{ap₂, ◌∙◌}
use Rattle.yspec_wide.specs.Guards.{asked_kind}
use Rattle.ylink_grammar.specs.LanguageView.{language_view}
use Rattle.yschema_plan.specs.NodesView.{node_view}
use Rattle.yschema_plan.specs.PlanView.{view}
use Rattle.yschema.proofs.making.kind_of.Goals as goal

pub returns : goal.returns
returns c =
    let language = language_view c.args.language.now in
    let plan = view c.args.plan.now in
    c.asked_kind.ensures
    ∙ ap₂ (λ guarded kind. asked_kind guarded kind)
    (c.is_guarded-guarded.ensures language plan (node_view c.args.node) c.requires.of_plan c.requires.stands) c.in_ok-kind.ensures
