use Rattle.std.proofs.Common.{◌∙◌, sym}
use Rattle.yinst_tree.specs.View.{tree_view}
use Rattle.yinst_tree.proofs.OrderLemmas.{sorted_in_order}
use Rattle.yinst_tree.proofs.document.Tree.is_in_order.Goals as goal

pub returns : goal.returns
returns c is = sorted_in_order (tree_view c.args.self.now) (sym c.args.self.now.ordered ∙ is)
