use Rattle.std.proofs.Common.{get_or, refl, subst, arith}
use Rattle.std.proofs.lemmas.List.{take_all}
use Rattle.yschema_model.specs.References.{targets_of, HoldsMore}
use Rattle.yschema_model.proofs.ReferenceLemmas.{members_more, none_more}
use Rattle.yschema_model.proofs.references.References.add_members.Goals as goal

pub loop-members-init : goal.loop-members-init
loop-members-init c = none_more c.args.self.now c.args.id.0

pub loop-members-preserved : goal.loop-members-preserved
loop-members-preserved c =
    members_more c.args.self.now c.loop-members.self c.add_each.new.self c.args.id.0 c.args.targets.now c.loop-members.members-index (get_or c.args.targets.now c.loop-members.members-index _) _
    c.loop-members-test.true refl c.loop-members.invariant c.in_ok-add_each.ensures

pub returns : goal.returns
returns c =
    subst (λ targets. HoldsMore c.args.self.now c.loop-members.self c.args.id.0 (targets_of targets))
    (take_all c.loop-members.members-index c.args.targets.now (omega arith)) c.loop-members.invariant
