use Rattle.std.proofs.Common.{◌≡◌, drop, map}
use Rattle.ysay_types.specs.Restrictions.{first_twice}
use Rattle.ysay_types.proofs.restrictions.first_twice.Given as goal

abbrev pub invariant-loop-place : goal.invariant-loop-place
invariant-loop-place l = first_twice (map (λ t. t.now) (drop l.place l.texts)) ≡ first_twice (map (λ t. t.now) l.texts)
