use Rattle.std.proofs.Common.{sym, ap, ◌∙◌}
use Rattle.yschema_model.proofs.TargetLemmas.{count_of, count_is}
use Rattle.yschema_model.proofs.node.MemberTargets.count.Goals as goal

pub returns-in-Own : goal.returns-in-Own
returns-in-Own c = ap count_of (sym c.in-Own.is) ∙ count_is c.args.self.now

pub returns-in-One : goal.returns-in-One
returns-in-One c = ap count_of (sym c.in-One.is) ∙ count_is c.args.self.now

pub returns-in-All : goal.returns-in-All
returns-in-All c = ap count_of (sym c.in-All.is) ∙ count_is c.args.self.now
