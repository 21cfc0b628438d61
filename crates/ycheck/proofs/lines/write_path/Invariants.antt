use Rattle.std.proofs.Common.{drop, None}
use Rattle.yspec.specs.document.Path.{path_from}
use Rattle.ybase_output.specs.Writing.{side}
use Rattle.ybase_output.proofs.WritingLemmas.{Left}
use Rattle.yschema_model.specs.View.{view}
use Rattle.yinst_tree.specs.View.{place_view}
use Rattle.ycheck.proofs.lines.write_path.Given as goal

abbrev pub invariant-loop-step : goal.invariant-loop-step
invariant-loop-step g l = Left (side g.W.Sink.taken g.W.Sink.failures l.fn.sink) (side g.W.Sink.taken g.W.Sink.failures l.sink)
    (path_from (view l.schema) None (place_view l.steps)) (path_from (view l.schema) l.parent_module (place_view (drop l.step-index l.steps)))
