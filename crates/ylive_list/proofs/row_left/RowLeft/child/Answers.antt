use Rattle.std.proofs.Common.{arith, ◌≡◌, ◌∙◌, ap, length, slice_get}
use Rattle.ystore.specs.Store.{children_at}
use Rattle.ystore.specs.Viewed.{viewed}
use Rattle.ylive_list.specs.Walked.{row_of}
use Rattle.ylive_list.proofs.ChildLemmas.{awaits}
use Rattle.ylive_list.proofs.row_left.RowLeft.child.Goals as goal

pub returns-clause-next : goal.returns-clause-next
returns-clause-next c =
    let nodes = viewed c.args.view in
    let r = c.args.self in
    let count : c.child_count.result ≡ length (children_at nodes (row_of r.above)) =
    c.child_count.ensures ∙ ap (λ row. length (children_at nodes row)) c.row-row.ensures in
    awaits c.args.levels nodes r c.child_at.result (omega (arith, c.if-levels-eq0.false))
    (omega (arith, count, c.if-child_count-self.false))
    (c.child_at.ensures ∙ ap (λ row. slice_get (children_at nodes row) r.passed) c.row-row.ensures)
