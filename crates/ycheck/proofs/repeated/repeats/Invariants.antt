use Rattle.std.proofs.Common.{◌≡◌, drop, map, ◌++◌}
use Rattle.std.specs.Ordering.{eq_by_cmp}
use Rattle.ycheck.specs.Repeated.{repeats, marks}
use Rattle.ycheck.proofs.repeated.repeats.Given as goal

abbrev pub invariant-mark : goal.invariant-mark
invariant-mark g l = l.found.items ++ map (repeats (eq_by_cmp g.K.Ord.cmp) l.keys) (drop l.key-index l.keys) ≡ marks (eq_by_cmp g.K.Ord.cmp) l.keys
