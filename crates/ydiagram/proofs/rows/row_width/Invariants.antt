use Rattle.std.proofs.Common.{◌≡◌, max}
use Rattle.yspec.specs.schema.Diagram.{row_width}
use Rattle.yschema_model.specs.View.{row_view, view}
use Rattle.ydiagram.specs.View.{shown_in}
use Rattle.ydiagram.proofs.rows.row_width.Given as goal

abbrev pub invariant-loop-child : goal.invariant-loop-child
invariant-loop-child l = max l.width (row_width (view l.schema) l.shown (shown_in l.owner (row_view l.child-iterator)))
    ≡ row_width (view l.schema) l.shown (shown_in l.owner (row_view l.nodes))
