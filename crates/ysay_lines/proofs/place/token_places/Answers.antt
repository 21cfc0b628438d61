use Rattle.std.proofs.Common.{cond, get_or, ◌++◌, ◌∷◌, [], ap, ◌∙◌, refl, arith}
use Rattle.ysay_lines.specs.Found.{mode_of}
use Rattle.ysay_lines.proofs.PlaceLemmas.{next_within, placed_all, placed_more}
use Rattle.ysay_lines.proofs.place.token_places.Goals as goal

pub loop-byte-preserved : goal.loop-byte-preserved
loop-byte-preserved c =
    let l = c.loop-byte in
    let within = next_within l.here c.next_place-here.result _ l.byte-index c.next_place-here.ensures l.invariant.1 l.invariant.2 in (
      placed_more l.places.items c.add_start.new.places.items (mode_of l.mode) (mode_of c.behind-mode.result) l.here c.next_place-here.result c.args.bytes.now l.byte-index _ (get_or c.args.bytes.now l.byte-index _) _ c.loop-byte-test.true refl
          (c.in_ok-add_start.ensures ∙ ap (λ b. l.places.items ++ cond b (l.here ∷ []) []) c.begins.ensures) c.behind-mode.ensures c.next_place-here.ensures l.invariant.0,
      within.0,
      within.1,
    )

pub returns : goal.returns
returns c = placed_all c.loop-byte.places.items (mode_of c.loop-byte.mode) c.loop-byte.here c.args.bytes.now c.loop-byte.byte-index (omega arith) c.loop-byte.invariant.0
