use Rattle.std.proofs.Common.{drop, codes}
use Rattle.yspec.specs.schema.Schema.{children_of}
use Rattle.ybase_output.specs.Writing.{side}
use Rattle.ybase_output.proofs.WritingLemmas.{Left}
use Rattle.yschema_model.specs.Layout.{numbers_of}
use Rattle.yschema_model.specs.View.{augment_view, view}
use Rattle.ydiagram.specs.View.{added_row, rest_written, row_of, row_written}
use Rattle.ydiagram.proofs.RowLemmas.{with_held}
use Rattle.ydiagram.proofs.augments.write_added.Given as goal

-- what is left to write: the node that is held, and those of the numbers behind it
abbrev pub invariant-loop-id : goal.invariant-loop-id
invariant-loop-id g l =
    let s = view l.schema in
    let rest = row_of (children_of s l.augment.target.0) (numbers_of (drop l.id-index l.augment.nodes.items)) in
    Left (side g.W.Sink.taken g.W.Sink.failures l.fn.sink) (side g.W.Sink.taken g.W.Sink.failures l.sink)
    (row_written s l.shown (codes "    ") (added_row s (augment_view l.augment)))
    (rest_written s l.shown (codes "    ") l.width (with_held l.held rest))
