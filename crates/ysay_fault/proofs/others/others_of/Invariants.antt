use Rattle.std.proofs.Common.{◌≡◌, ◌+◌, drop, ◌++◌}
use Rattle.std.specs.Ordering.{eq_by_cmp}
use Rattle.ysay_fault.specs.Others.{others_from}
use Rattle.ysay_fault.proofs.others.others_of.Given as goal

abbrev pub invariant-tell : goal.invariant-tell
invariant-tell g l = let same = eq_by_cmp g.K.Ord.cmp in
    l.others.items ++ others_from same l.keys (l.place + 1) (drop l.place l.keys) ≡ others_from same l.keys 1 l.keys
