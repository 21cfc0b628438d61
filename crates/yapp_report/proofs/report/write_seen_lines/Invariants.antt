use Rattle.std.specs.List.{flat_map}
use Rattle.yspec.specs.document.Faults.{line_of}
use Rattle.yschema_model.specs.View as schema
use Rattle.ybase_output.specs.Writing.{side}
use Rattle.ybase_output.proofs.WritingLemmas.{Left}
use Rattle.ylive_list.specs.Walked.{left}
use Rattle.yapp_report.proofs.report.write_seen_lines.Given as goal

abbrev pub invariant-loop-seen : goal.invariant-loop-seen
invariant-loop-seen g l = record {
  more : (goal.iterator-loop-seen g).can_next l.seen-iterator;
  ends : (goal.iterator-loop-seen g).is_finite l.seen-iterator;
  so_far : Left (side g.S.Sink.taken g.S.Sink.failures l.fn.sink) (side g.S.Sink.taken g.S.Sink.failures l.sink)
      (flat_map (line_of (schema.view l.schema)) (left l.fn.walk)) (flat_map (line_of (schema.view l.schema)) (left l.seen-iterator));
}
