use Rattle.std.proofs.Common.{◌&&◌, sym, ap, ◌∙◌}
use Rattle.yspec.specs.linking.Keyword.{leaf_word, same_keyword}
use Rattle.yspec.specs.linking.Planned.{is_typed}
use Rattle.yschema_plan.specs.PlannedView.{planned_view}
use Rattle.yschema_plan.proofs.planned.Planned.is_leaf.Goals as goal

pub returns-then-is : goal.returns-then-is
returns-then-is c = λ number.
    c.is_typed.ensures number
    ∙ ap (λ b. b && is_typed (planned_view number c.args.self.now)) (sym c.if-is.true ∙ (c.is.ensures ∙ ap (same_keyword leaf_word) c.keyword.ensures))
