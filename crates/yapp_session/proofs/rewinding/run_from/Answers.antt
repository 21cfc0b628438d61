use Rattle.yinst_tree.specs.View.{tree_view}
use Rattle.ylive.specs.View.{view}
use Rattle.yapp_session.specs.View.{groups_view}
use Rattle.yapp_session.proofs.RewindLemmas.{run_anew}
use Rattle.yapp_session.proofs.rewinding.run_from.Goals as goal

pub returns-clause-ok : goal.returns-clause-ok
returns-clause-ok c =
    run_anew (view c.args.live.now).schema (view c.reopen.new.self) (view c.run_groups.new.live) (tree_view c.args.tree.now) (tree_view c.in_ok-clone.field-0)
    (groups_view c.args.groups.now) c.in_ok-reopen.ensures.ok c.in_ok-clone.ensures.cases c.in_ok-run_groups.ensures.ok
