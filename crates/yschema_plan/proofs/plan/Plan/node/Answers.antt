use Rattle.std.proofs.Common.{◌≡◌, Some, None, length, refl, sym, ap, ◌∙◌}
use Rattle.std.specs.Prelude.{option_map, slice_get}
use Rattle.std.proofs.lemmas.Option.{slice_get_read, slice_get_past}
use Rattle.ybase_preorder.specs.View.{slots_in}
use Rattle.yschema_plan.specs.PlannedView.{planned_view}
use Rattle.yschema_plan.proofs.PlanLemmas.{node_at}
use Rattle.yschema_plan.proofs.plan.Plan.node.Goals as goal

pub returns-in-Some : goal.returns-in-Some
returns-in-Some c =
    let rows = slots_in c.args.self.now.table in
    let found = c.in-Some.ensures.lookup in
    let there : slice_get rows c.args.number ≡ Some c.in-Some.row.now = ap (λ xs. slice_get xs c.args.number) (sym c.slots.ensures)
    ∙ slice_get_read c.slots.result.now (length c.slots.result.now) c.args.number c.in-Some.row.now refl found.3.0 found.1 in
    sym (node_at c.args.self.now c.args.number ∙ ap (option_map (λ r. planned_view c.args.number r.label)) there)

pub returns-in-None : goal.returns-in-None
returns-in-None c =
    let rows = slots_in c.args.self.now.table in
    let there : slice_get rows c.args.number ≡ None = ap (λ xs. slice_get xs c.args.number) (sym c.slots.ensures)
    ∙ slice_get_past c.slots.result.now c.args.number c.in-None.ensures.lookup.3 in
    sym (node_at c.args.self.now c.args.number ∙ ap (option_map (λ r. planned_view c.args.number r.label)) there)
