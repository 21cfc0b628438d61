use Rattle.std.proofs.Common.{drop}
use Rattle.std.specs.List.{flat_map}
use Rattle.ybase_output.specs.Writing.{side}
use Rattle.ybase_output.proofs.WritingLemmas.{Left}
use Rattle.ybase_output.proofs.sink.write_texts.Given as goal

abbrev pub invariant-loop-text : goal.invariant-loop-text
invariant-loop-text g l = Left (side g.S.Sink.taken g.S.Sink.failures l.fn.sink) (side g.S.Sink.taken g.S.Sink.failures l.sink)
    (flat_map (λ t. t.now) l.texts) (flat_map (λ t. t.now) (drop l.text-index l.texts))
