use Rattle.yspec.proofs.DocumentProofs.SortingLemmas.{in_order}
use Rattle.yinst_tree.specs.View.{tree_view}
use Rattle.ylive.specs.View.{view}
use Rattle.ylive.proofs.LiveLemmas.{live_anew, reopened_is}
use Rattle.ylive.proofs.live.Live.reopen.Goals as goal

pub told_store-requires : goal.told_store-requires
told_store-requires c = in_order (view c.args.self.now).schema (tree_view c.args.tree) c.requires

pub invariant_of-self : goal.invariant_of-self
invariant_of-self c =
    live_anew c.self.inside.schema c.self.inside.nodes c.in_ok-self-inside.field-0 c.self.inside.is_stale c.args.self.now (tree_view c.args.tree) c.self.view_is
    c.in_ok-self-inside.ensures c.requires

pub returns-clause-ok : goal.returns-clause-ok
returns-clause-ok c =
    reopened_is c.self.inside.schema c.self.inside.nodes c.in_ok-self-inside.field-0 c.self.inside.is_stale c.args.self.now (tree_view c.args.tree) c.self.view_is
    c.in_ok-self-inside.ensures
