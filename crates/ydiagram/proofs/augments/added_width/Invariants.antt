use Rattle.std.proofs.Common.{◌≡◌, max, drop}
use Rattle.yspec.specs.schema.Schema.{children_of}
use Rattle.yspec.specs.schema.Diagram.{row_width}
use Rattle.yschema_model.specs.Layout.{numbers_of}
use Rattle.yschema_model.specs.View.{augment_view, view}
use Rattle.ydiagram.specs.View.{added_row, row_of}
use Rattle.ydiagram.proofs.augments.added_width.Given as goal

abbrev pub invariant-loop-id : goal.invariant-loop-id
invariant-loop-id l =
    let s = view l.schema in
    max l.width (row_width s l.shown (row_of (children_of s l.augment.target.0) (numbers_of (drop l.id-index l.augment.nodes.items))))
    ≡ row_width s l.shown (added_row s (augment_view l.augment))
