use Rattle.std.proofs.Common.{◌≡◌, drop}
use Rattle.ytext.specs.View.{row_view}
use Rattle.ylink_arguments.specs.NameView.{names_view}
use Rattle.ysay_names.specs.Keys.{of_path, steps_of}
use Rattle.ysay_names.proofs.keys.of_path.Given as goal

abbrev pub invariant-loop-place : goal.invariant-loop-place
invariant-loop-place l = of_path l.word (steps_of (names_view (drop l.place l.path))) (row_view l.left) ≡ of_path l.word (steps_of (names_view l.path)) (row_view l.fn.row)
