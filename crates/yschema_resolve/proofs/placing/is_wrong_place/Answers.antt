use Rattle.std.proofs.Common.{◌≡◌, ◌&&◌, true, false, sym, ap, ◌∙◌}
use Rattle.yspec_wide.specs.Operations.{is_operation_node}
use Rattle.ylink_grammar.specs.LanguageView.{language_view}
use Rattle.yschema_plan.specs.NodesView.{node_view}
use Rattle.yschema_plan.specs.PlanView.{view}
use Rattle.yschema_resolve.specs.Placing.{is_misplaced_by}
use Rattle.yschema_resolve.proofs.placing.is_wrong_place.Goals as goal

pub returns-then-is_operation : goal.returns-then-is_operation
returns-then-is_operation c =
    let l = language_view c.args.language.now in
    let p = node_view c.args.node in
    let is : is_operation_node l p ≡ true = sym c.is_operation.ensures ∙ c.if-is_operation.true in
    c.is_misplaced.ensures c.args.node.number
    ∙ sym (ap (λ b. b && is_misplaced_by l c.args.barred.now (view c.args.plan.now) p) is)

pub returns-else-is_operation : goal.returns-else-is_operation
returns-else-is_operation c =
    let l = language_view c.args.language.now in
    let p = node_view c.args.node in
    let other : is_operation_node l p ≡ false = sym c.is_operation.ensures ∙ c.if-is_operation.false in
    c.if-is_operation.false ∙ sym (ap (λ b. b && is_misplaced_by l c.args.barred.now (view c.args.plan.now) p) other)
