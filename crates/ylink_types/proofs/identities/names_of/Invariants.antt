use Rattle.std.proofs.Common.{◌≡◌, map, take}
use Rattle.ylink_types.specs.IdentityView.{assigned_by, home_view}
use Rattle.ylink_types.proofs.identities.names_of.Given as goal

abbrev pub invariant-loop-identity : goal.invariant-loop-identity
invariant-loop-identity l = l.names ≡ map (assigned_by (map home_view l.homes)) (take l.identity-index l.identities)
