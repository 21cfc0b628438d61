use Rattle.std.proofs.Common.{[], map, sym, ap, ◌∙◌}
use Rattle.std.proofs.lemmas.Result.{IfOk-weaker}
use Rattle.ylink_grammar.specs.SourceView.{stated_view}
use Rattle.yschema_plan.specs.PlannedView.{planned_view}
use Rattle.yschema_resolve.proofs.DefaultLemmas.{may_have, has_none}
use Rattle.yschema_resolve.proofs.defaults.defaults_of.Goals as goal

pub returns-then-has_defaults : goal.returns-then-has_defaults
returns-then-has_defaults c = λ language plan number of_plan.
    IfOk-weaker c.default_texts.result _ _ (λ texts so. may_have language plan (planned_view number c.args.planned.now) (map stated_view texts.items)
    (sym (c.has_defaults.ensures language plan number of_plan.versions) ∙ c.if-has_defaults.true) so) (c.default_texts.ensures plan number of_plan.named)

pub returns-else-has_defaults : goal.returns-else-has_defaults
returns-else-has_defaults c = λ language plan number of_plan.
    has_none language plan (planned_view number c.args.planned.now) (map stated_view c.new.result.items)
    (sym (c.has_defaults.ensures language plan number of_plan.versions) ∙ c.if-has_defaults.false) (ap (map stated_view) c.new.ensures.items)
