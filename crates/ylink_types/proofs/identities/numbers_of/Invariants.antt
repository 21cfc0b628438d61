use Rattle.std.proofs.Common.{◌≡◌, ◌++◌, drop, filter, map}
use Rattle.ylink_types.specs.IdentityView.{is_kept, number_of}
use Rattle.ylink_types.proofs.identities.numbers_of.Given as goal

abbrev pub invariant-loop-identity : goal.invariant-loop-identity
invariant-loop-identity l = l.numbers.items ++ map number_of (filter is_kept (drop l.identity-index l.identities)) ≡ map number_of (filter is_kept l.identities)
