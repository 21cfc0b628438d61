use Rattle.std.proofs.Common.{◌+◌, Some, cond, sym, ap, ◌∙◌, arith}
use Rattle.std.specs.Ordering.{eq_by_cmp, is_eq}
use Rattle.std.specs.Cmp.{eq_by_cmp_equiv}
use Rattle.std.specs.Map.{lookup}
use Rattle.ysay_fault.specs.Others.{with_position}
use Rattle.ysay_fault.proofs.OtherLemmas.{noted, passed, all_noted}
use Rattle.ysay_fault.proofs.others.first_positions.Goals as goal
use Rattle.ysay_fault.proofs.others.first_positions.Goals.{in-Some+in_ok-insert, in_default}

pub note-preserved : goal.note-preserved
note-preserved g c =
    let same = eq_by_cmp g.K.Ord.cmp in
    let laws = eq_by_cmp_equiv g.met.K.Ord.total in
    let keys = c.args.keys.now in
    elim c.match-keys-place.branch [
      | in-Some+in_ok-insert w ↦
          noted same laws keys c.note.place c.index-keys-place.result (omega arith) w.in-Some.key
          (λ q. lookup (λ k. is_eq (g.K.Ord.cmp q k.now)) c.note.known.entries)
          (λ q. lookup (λ k. is_eq (g.K.Ord.cmp q k.now)) c.match-keys-place.known.entries)
          (sym c.index-keys-place.is ∙ w.in-Some.is)
          (λ q. ap (λ m. lookup (λ k. is_eq (g.K.Ord.cmp q k.now)) m.entries) w.known-is
          ∙ (w.in_ok-insert.ensures.updates.0 (record { ref_ptr = c.args.keys.ref_ptr; now = q })
          ∙ ap (λ two. cond (same w.in-Some.key q) (Some two) (lookup (λ k. is_eq (g.K.Ord.cmp q k.now)) c.note.known.entries))
          (w.with_position-two.ensures ∙ ap (λ o. with_position o (c.note.place + 1)) (w.copied.ensures ∙ w.get.ensures.value))))
          c.note.invariant
      | in_default w ↦
          rw w.known-is (passed same laws keys c.note.place c.index-keys-place.result (omega arith)
          (λ q. lookup (λ k. is_eq (g.K.Ord.cmp q k.now)) c.note.known.entries) (sym c.index-keys-place.is ∙ w.in_default.is) c.note.invariant)
    ]

pub returns : goal.returns
returns g c =
    all_noted (eq_by_cmp g.K.Ord.cmp) c.args.keys.now c.note.place (λ q. lookup (λ k. is_eq (g.K.Ord.cmp q k.now)) c.note.known.entries) (omega arith) c.note.invariant
