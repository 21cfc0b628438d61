use Rattle.std.proofs.Common.{drop}
use Rattle.yspec.specs.schema.Diagram.{key_names}
use Rattle.ybase_output.specs.Writing.{side}
use Rattle.ybase_output.proofs.WritingLemmas.{Left}
use Rattle.yschema_model.specs.Layout.{numbers_of}
use Rattle.yschema_model.specs.View.{view}
use Rattle.ydiagram.proofs.LabelLemmas.{others_left}
use Rattle.ydiagram.proofs.label.write_keys.Given as goal

abbrev pub invariant-loop-other : goal.invariant-loop-other
invariant-loop-other g l = Left (side g.W.Sink.taken g.W.Sink.failures l.fn.sink) (side g.W.Sink.taken g.W.Sink.failures l.sink)
    (key_names (view l.schema) (numbers_of l.keys)) (others_left (view l.schema) (drop l.other-index l.others))
