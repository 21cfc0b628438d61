use Rattle.std.proofs.lemmas.List.{at_drop_all, at_drop_more}
use Rattle.std.specs.List.{flat_map}
use Rattle.ybase_output.proofs.WritingLemmas.{left_all, left_same, left_after, left_none, left_failed, wrote_same, broke_same}
use Rattle.ybase_output.proofs.sink.write_texts.Goals as goal

pub loop-text-init : goal.loop-text-init
loop-text-init g c = left_all _ _

pub loop-text-preserved : goal.loop-text-preserved
loop-text-preserved g c = left_after _ _ _ _ _ _ (left_same _ _ _ _ _
    (at_drop_more (flat_map (λ t. t.now)) c.args.texts.now c.loop-text.text-index _ c.loop-text-test.true) c.loop-text.invariant)
    (wrote_same _ _ _ _ c.as_bytes.ensures.value c.in_ok-write_all.ensures)

pub returns : goal.returns
returns g c = left_none _ _ _ (left_same _ _ _ _ _
    (at_drop_all (flat_map (λ t. t.now)) c.args.texts.now c.loop-text.text-index c.loop-text-test.false) c.loop-text.invariant)

pub returns-in_err-write_all : goal.returns-in_err-write_all
returns-in_err-write_all g c = left_failed _ _ _ _ _ _ c.from_residual.result c.from_residual.ensures.0
    (left_same _ _ _ _ _
    (at_drop_more (flat_map (λ t. t.now)) c.args.texts.now c.loop-text.text-index _ c.loop-text-test.true) c.loop-text.invariant)
    (broke_same _ _ _ _ c.as_bytes.ensures.value c.in_err-write_all.ensures)
