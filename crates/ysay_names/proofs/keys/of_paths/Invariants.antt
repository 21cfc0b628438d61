use Rattle.std.proofs.Common.{◌≡◌, drop, map}
use Rattle.ytext.specs.View.{row_view}
use Rattle.ylink_arguments.specs.NameView.{names_view}
use Rattle.ysay_names.specs.Keys.{of_paths, steps_of}
use Rattle.ysay_names.proofs.keys.of_paths.Given as goal

abbrev pub invariant-loop-path : goal.invariant-loop-path
invariant-loop-path l = of_paths l.word (row_view l.row) (map steps_of (map (λ p. names_view p.items) (drop l.path-index l.paths)))
    ≡ of_paths l.word (row_view l.row) (map steps_of (map (λ p. names_view p.items) l.paths))
