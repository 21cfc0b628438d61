use Rattle.std.proofs.Common.{refl, ap, ◌∙◌}
use Rattle.yspec.specs.Forest.{join}
use Rattle.yinst_tree.specs.View.{view, row_view}
use Rattle.yinst_tree.proofs.RowLemmas.{join_last}
use Rattle.yinst.proofs.rows.with_more.Goals as goal

pub returns : goal.returns
returns c = c.in_ok-push_copies.ensures
    ∙ (ap (λ ss. join (row_view ss) (row_view c.args.others.now)) c.in_ok-push.ensures.items
    ∙ join_last c.args.nodes.items c.args.next (view c.args.next).0 (view c.args.next).1 (row_view c.args.others.now) refl)
