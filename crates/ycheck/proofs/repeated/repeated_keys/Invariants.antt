use Rattle.ycheck.proofs.SortedLemmas.{Twice}
use Rattle.ycheck.proofs.repeated.repeated_keys.Given as goal

abbrev pub invariant-compare : goal.invariant-compare
invariant-compare g l = Twice g.met.K.Ord.total (λ k. k.now) l.sorted l.place l.twice.items
