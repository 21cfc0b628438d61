use Rattle.std.proofs.Common.{◌≡◌, List, Bor, nat_lt, count_by, sym, ap, ◌∙◌, arith}
use Rattle.std.specs.List.{list_any}
use Rattle.std.specs.Ordering.{eq_by_cmp}
use Rattle.ycheck.specs.Repeated.{repeats}
use Rattle.ycheck.proofs.RepeatedLemmas.{mark_more}
use Rattle.ycheck.proofs.repeated.repeats.Goals as goal
use Rattle.ycheck.proofs.repeated.repeats.Goals.{in-Some, in-None}

pub mark-preserved : goal.mark-preserved
mark-preserved g c =
    let same = eq_by_cmp g.K.Ord.cmp in
    let keys = c.args.keys.now in
    let marked : c.match-key.again ≡ repeats same keys c.key-item.result = elim c.match-key.branch [
      | in-Some w ↦
          let key = w.in-Some.key in
          w.again-is ∙ (w.is_among-again.ensures
          ∙ (ap (λ (ks : List (Bor g.row.K.Denot)). list_any (λ k. same key k.now) ks) w.deref-in-Some.ensures.value
          ∙ (c.in_ok-twice.ensures.all key
          ∙ (ap (λ (ks : List (Bor g.row.K.Denot)). nat_lt 1 (count_by (λ k. same key k.now) ks)) c.deref.ensures.value
          ∙ (ap (nat_lt 1) (c.in_ok-sorted.ensures.all key)
          ∙ sym (ap (repeats same keys) w.in-Some.is))))))
      | in-None w ↦ w.again-is ∙ sym (ap (repeats same keys) w.in-None.is)
    ] in
    mark_more (repeats same keys) keys c.mark.key-index c.key-item.result c.mark.found.items c.push.new.self.items _ c.match-key.again (omega arith)
    c.key-item.is marked c.in_ok-push.ensures.items c.mark.invariant
