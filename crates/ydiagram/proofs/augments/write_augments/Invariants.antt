use Rattle.std.proofs.Common.{◌≡◌, drop, true}
use Rattle.ybase_output.specs.Writing.{side}
use Rattle.ybase_output.proofs.WritingLemmas.{Left}
use Rattle.yspec_fit.specs.Fit.{all_ascend}
use Rattle.yschema_model.specs.View.{view}
use Rattle.ydiagram.specs.View.{augments_seen, augments_written}
use Rattle.ydiagram.proofs.augments.write_augments.Given as goal

abbrev pub invariant-loop-augment : goal.invariant-loop-augment
invariant-loop-augment g l = record {
  ascend : all_ascend (augments_seen (drop l.augment-index l.augments)) ≡ true;
  left : Left (side g.W.Sink.taken g.W.Sink.failures l.fn.sink) (side g.W.Sink.taken g.W.Sink.failures l.sink)
      (augments_written (view l.schema) l.shown (augments_seen l.augments))
      (augments_written (view l.schema) l.shown (augments_seen (drop l.augment-index l.augments)));
}
