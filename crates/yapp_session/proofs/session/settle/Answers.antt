use Rattle.yinst_tree.specs.View.{tree_view}
use Rattle.ylive.specs.View.{view}
use Rattle.yapp_session.specs.View.{past_view}
use Rattle.yapp_session.proofs.SettleLemmas.{marked_holds, settled_holds}
use Rattle.yapp_session.proofs.session.settle.Goals as goal

pub returns-then-not-is_due-clause-holds : goal.returns-then-not-is_due-clause-holds
returns-then-not-is_due-clause-holds c s h =
    settled_holds (view c.args.live.now) (past_view c.args.past.now) (past_view c.settle.new.self) s c.settle.ensures h

pub returns-in_default-clause-holds : goal.returns-in_default-clause-holds
returns-in_default-clause-holds c s h =
    settled_holds (view c.args.live.now) (past_view c.args.past.now) (past_view c.settle.new.self) s c.settle.ensures h

pub returns-clause-holds : goal.returns-clause-holds
returns-clause-holds c s h =
    marked_holds (view c.args.live.now) (past_view c.settle.new.self) (past_view c.mark.new.self) (tree_view c.in-Ok.tree) s c.mark.ensures c.in-Ok.ensures.copy
    (settled_holds (view c.args.live.now) (past_view c.args.past.now) (past_view c.settle.new.self) s c.settle.ensures h)
