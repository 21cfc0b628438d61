use Rattle.std.proofs.Common.{◌≡◌, drop}
use Rattle.ysay_value.specs.IdentityWords.{hint_among}
use Rattle.ysay_value.proofs.identities.hint_among.Given as goal

-- by the members that are left
abbrev pub invariant-loop-member : goal.invariant-loop-member
invariant-loop-member l = hint_among (drop l.member-index l.members) l.text ≡ hint_among l.members l.text
