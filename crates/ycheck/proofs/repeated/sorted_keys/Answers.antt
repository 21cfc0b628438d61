use Rattle.std.proofs.Common.{◌∙◌, sym, ap, arith, take_all, cond, Bor}
use Rattle.std.specs.Ordering.{eq_by_cmp}
use Rattle.std.proofs.lemmas.List.Sorted.{sum_by-IsPermutation}
use Rattle.ycheck.specs.Repeated.{times_among}
use Rattle.ycheck.proofs.RepeatedLemmas.{counted_some, counted_none}
use Rattle.ycheck.proofs.repeated.sorted_keys.Goals as goal
use Rattle.ycheck.proofs.repeated.sorted_keys.Goals.{in-Some+in_ok-push, in_default}

pub collect-preserved : goal.collect-preserved
collect-preserved g c q =
    let same = eq_by_cmp g.K.Ord.cmp in
    let keys = c.args.keys.now in
    elim c.match-key.branch [
      | in-Some+in_ok-push w ↦
          rw w.sorted-is (counted_some same keys c.collect.key-index c.key-item.result q (omega arith) (λ (k : Bor g.row.K.Denot). k.now) _ c.collect.sorted.items _
          (sym c.key-item.is ∙ w.in-Some.is) w.in_ok-push.ensures.items (c.collect.invariant q))
      | in_default w ↦
          rw w.sorted-is (counted_none same keys c.collect.key-index c.key-item.result q (omega arith) _ (sym c.key-item.is ∙ w.in_default.is) (c.collect.invariant q))
    ]

pub returns-clause-all : goal.returns-clause-all
returns-clause-all g c q =
    let same = eq_by_cmp g.K.Ord.cmp in
    sum_by-IsPermutation (λ k. cond (same q k.now) 1 0) c.collect.sorted.items c.sort.new.self.items c.in_ok-sort.ensures.permutation
    ∙ (c.collect.invariant q ∙ ap (λ ks. times_among same ks q) (take_all c.collect.key-index c.args.keys.now (omega arith)))
