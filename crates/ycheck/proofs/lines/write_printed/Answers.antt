use Rattle.std.proofs.Common.{ℕ, ◌∷◌, [], ap}
use Rattle.std.proofs.lemmas.List.{at_drop_all, at_drop_more}
use Rattle.yspec.specs.document.Faults.{printed_tag}
use Rattle.ybase_output.proofs.WritingLemmas.{left_all, left_same, left_after, left_none, left_broken, wrote_same, broke_same}
use Rattle.ycheck.proofs.lines.write_printed.Goals as goal

pub loop-byte-init : goal.loop-byte-init
loop-byte-init g c = left_all _ _

pub loop-byte-preserved : goal.loop-byte-preserved
loop-byte-preserved g c = left_after _ _ _ _ _ _
    (left_same _ _ _ _ _ (at_drop_more printed_tag c.args.bytes.now c.loop-byte.byte-index 0 c.loop-byte-test.true) c.loop-byte.invariant)
    (wrote_same _ _ _ _ (ap (λ (x : ℕ). x ∷ []) c.printed_byte.ensures) c.in-Ok.ensures)

pub returns : goal.returns
returns g c = left_none _ _ _
    (left_same _ _ _ _ _ (at_drop_all printed_tag c.args.bytes.now c.loop-byte.byte-index c.loop-byte-test.false) c.loop-byte.invariant)

pub returns-in-Err : goal.returns-in-Err
returns-in-Err g c = left_broken _ _ _ _ _ _
    (left_same _ _ _ _ _ (at_drop_more printed_tag c.args.bytes.now c.loop-byte.byte-index 0 c.loop-byte-test.true) c.loop-byte.invariant)
    (broke_same _ _ _ _ (ap (λ (x : ℕ). x ∷ []) c.printed_byte.ensures) c.in-Err.ensures)
