use Rattle.std.proofs.Common.{◌≡◌, rules}
use Rattle.yschema_model.specs.View.{row_view}
use Rattle.yschema_model.proofs.RowLemmas.{first_node, takes_none}
use Rattle.yschema_model.proofs.children.ChildrenIterator.next.Goals as goal

pub returns-in_err-first-clause-steps : goal.returns-in_err-first-clause-steps
returns-in_err-first-clause-steps c =
    takes_none c.args.self.now c.from_residual.result c.from_residual.ensures (search rules)

pub returns-clause-steps : goal.returns-clause-steps
returns-clause-steps c =
    let is_id : c.new.result.0 ≡ c.args.self.now.number = search rules in
    rw is_id (first_node c.args.self.now.number c.min-below.result c.args.self.now.slots.now c.in_ok-first.rest.now c.split_at.result.0.now c.split_at.result.1.now
    c.in_ok-first.first.now (row_view c.new-2.result) (search rules) c.min-below.ensures c.split_at.ensures.front c.split_at.ensures.back c.new-2.ensures)
