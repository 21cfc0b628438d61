use Rattle.std.proofs.Common.{sym, ap, ◌∙◌}
use Rattle.std.specs.Prelude.{option_map}
use Rattle.yschema_model.specs.Layout.{member_target_view}
use Rattle.yschema_model.proofs.TargetLemmas.{at_of, at_is}
use Rattle.yschema_model.proofs.node.MemberTargets.at.Goals as goal

pub returns-in-Own : goal.returns-in-Own
returns-in-Own c within = ap (λ m. option_map member_target_view (at_of m c.args.number)) (sym c.in-Own.is) ∙ at_is c.args.self.now c.args.number within

pub returns-in-One : goal.returns-in-One
returns-in-One c within = ap (λ m. option_map member_target_view (at_of m c.args.number)) (sym c.in-One.is) ∙ at_is c.args.self.now c.args.number within

pub returns-in-All : goal.returns-in-All
returns-in-All c within = ap (λ m. option_map member_target_view (at_of m c.args.number)) (sym c.in-All.is) ∙ at_is c.args.self.now c.args.number within
