use Rattle.yspec.proofs.DocumentProofs.SortingLemmas.{in_order}
use Rattle.yinst_tree.specs.View.{tree_view}
use Rattle.ylive.specs.View.{view}
use Rattle.yapp_session.proofs.telling.earlier_of.Goals as goal

pub returns-clause-sorted : goal.returns-clause-sorted
returns-clause-sorted c = in_order (view c.args.live.now).schema (tree_view c.in_ok-tree.tree) c.in_ok-tree.ensures.fitting
