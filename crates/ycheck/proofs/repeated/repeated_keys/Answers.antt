use Rattle.std.proofs.Common.{◌∙◌, sym, ap, arith, is_eq}
use Rattle.ycheck.proofs.SortedLemmas.{twice_same, twice_other, twice_all}
use Rattle.ycheck.proofs.repeated.repeated_keys.Goals as goal
use Rattle.ycheck.proofs.repeated.repeated_keys.Goals.{then-is_eq+in_ok-push, else-is_eq}

pub compare-preserved : goal.compare-preserved
compare-preserved g c =
    let o = g.met.K.Ord.total in
    let last = c.index-sorted-place-in-compare.result in
    let next = c.index-sorted-place.result in
    elim c.if-is_eq.branch [
      | then-is_eq+in_ok-push w ↦
          rw w.twice-is (twice_same o (λ k. k.now) c.args.sorted.now c.compare.twice.items c.requires c.compare.place last next
          (omega arith) (omega arith) c.index-sorted-place-in-compare.is c.index-sorted-place.is c.compare.invariant w.push.new.self.items w.in_ok-push.ensures.items (ap is_eq (sym c.cmp.ensures) ∙ (sym c.is_eq.ensures ∙ w.if-is_eq.true)))
      | else-is_eq w ↦
          rw w.twice-is (twice_other o (λ k. k.now) c.args.sorted.now c.compare.twice.items c.requires c.compare.place last next
          (omega arith) (omega arith) c.index-sorted-place-in-compare.is c.index-sorted-place.is c.compare.invariant (ap is_eq (sym c.cmp.ensures) ∙ (sym c.is_eq.ensures ∙ w.if-is_eq.false)))
    ]

pub returns-clause-all : goal.returns-clause-all
returns-clause-all g c = twice_all g.met.K.Ord.total (λ k. k.now) c.args.sorted.now c.compare.twice.items c.compare.place (omega arith) c.compare.invariant
