use Rattle.std.proofs.Common.{◌≡◌, drop}
use Rattle.ytext.specs.View.{modules_view, row_view}
use Rattle.ylink_arguments.specs.NameView.{names_view}
use Rattle.ysay_circles.specs.Conditions.{of_names}
use Rattle.ysay_circles.proofs.conditions.of_names.Given as goal

abbrev pub invariant-loop-name : goal.invariant-loop-name
invariant-loop-name l = of_names (modules_view l.modules) (row_view l.row) (names_view (drop l.name-index l.names))
    ≡ of_names (modules_view l.modules) (row_view l.row) (names_view l.names)
