use Rattle.yinst_tree.specs.View.{tree_view}
use Rattle.ystore.specs.Viewed.{viewed}
use Rattle.ylive.proofs.LiveLemmas.{copy_fits, copy_is}
use Rattle.ylive.proofs.live.Live.tree.Goals as goal

pub returns-clause-copy : goal.returns-clause-copy
returns-clause-copy c = copy_is c.self.inside.nodes (viewed c.view.result) tree_view c.view.ensures c.self.inside.schema c.self.inside.is_stale c.args.self.now
    c.copy_tree.result c.self.view_is c.copy_tree.ensures.listed

pub returns-clause-fitting : goal.returns-clause-fitting
returns-clause-fitting c = copy_fits c.self.inside.nodes (viewed c.view.result) tree_view c.view.ensures c.self.inside.schema c.self.inside.is_stale c.args.self.now
    c.copy_tree.result c.self.view_is c.self.invariant c.copy_tree.ensures.listed
