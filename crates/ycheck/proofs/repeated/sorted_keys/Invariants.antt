use Rattle.std.proofs.Common.{◌≡◌, take, count_by}
use Rattle.std.specs.Ordering.{eq_by_cmp}
use Rattle.ycheck.specs.Repeated.{times_among}
use Rattle.ycheck.proofs.repeated.sorted_keys.Given as goal

-- each key is as often there as it came so far
abbrev pub invariant-collect : goal.invariant-collect
invariant-collect g l = (q : g.row.K.Denot)
    → count_by (λ k. eq_by_cmp g.K.Ord.cmp q k.now) l.sorted.items ≡ times_among (eq_by_cmp g.K.Ord.cmp) (take l.key-index l.keys) q
