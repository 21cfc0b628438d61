use Rattle.std.proofs.Common.{◌≡◌, ◌||◌, true, false, not, sym, ap, ◌∙◌}
use Rattle.yspec.specs.linking.Planned.{is_data}
use Rattle.yschema_plan.specs.NodesView.{node_view}
use Rattle.yschema_resolve.specs.Standing.{is_told_of}
use Rattle.yschema_resolve.proofs.placing.is_barred_by.Goals as goal

pub returns-then-not-is_data : goal.returns-then-not-is_data
returns-then-not-is_data c =
    let p = node_view c.args.above in
    let held : is_data p ≡ false = sym (c.is_data.ensures c.args.above.number) ∙ c.if-not-is_data.true in
    ap not c.if-not-is_data.true ∙ sym (ap (λ b. not b || is_told_of c.args.barred.now p) held)

pub returns-else-not-is_data : goal.returns-else-not-is_data
returns-else-not-is_data c =
    let p = node_view c.args.above in
    let held : is_data p ≡ true = sym (c.is_data.ensures c.args.above.number) ∙ c.if-not-is_data.false in
    c.is_told.ensures ∙ sym (ap (λ b. not b || is_told_of c.args.barred.now p) held)
