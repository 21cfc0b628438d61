use Rattle.ylink_types.proofs.IdentityLemmas.{next_number}
use Rattle.ylink_types.proofs.identities.numbers_of.Goals as goal

pub loop-identity-preserved : goal.loop-identity-preserved
loop-identity-preserved c =
    next_number c.args.identities.now c.loop-identity.identity-index _ c.loop-identity.numbers.items c.push_number.new.numbers.items _
    c.loop-identity-test.true c.in_ok-push_number.ensures c.loop-identity.invariant
