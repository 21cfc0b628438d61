use Rattle.std.proofs.Common.{rules, refl}
use Rattle.ybase_preorder.specs.View.{row_view}
use Rattle.ybase_preorder.proofs.RowLemmas.{first_node, numbers_behind, takes_none}
use Rattle.ybase_preorder.proofs.siblings.SiblingsIterator.next.Goals as goal

pub returns-in_err-first-clause-steps : goal.returns-in_err-first-clause-steps
returns-in_err-first-clause-steps g c =
    takes_none c.args.self.now c.from_residual.result c.from_residual.ensures (search rules)

pub returns-clause-steps : goal.returns-clause-steps
returns-clause-steps g c =
    let rest = c.in_ok-first.rest.now in
    let first = c.in_ok-first.first.now in
    let inner = c.split_at.result.0.now in (
      first_node c.min-below.result c.args.self.now.slots.now rest inner c.split_at.result.1.now first (row_view c.new.result)
          (search rules) c.min-below.ensures c.split_at.ensures.front c.split_at.ensures.back c.new.ensures.row,
      refl,
      c.new.ensures.number,
      numbers_behind c.args.self.now.number c.min-below.result rest inner first (row_view c.new.result)
          c.min-below.ensures c.split_at.ensures.front c.new.ensures.row,
    )
