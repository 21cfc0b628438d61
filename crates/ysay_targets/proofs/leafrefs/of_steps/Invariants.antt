use Rattle.std.proofs.Common.{◌≡◌, [], drop, option_map, string_bytes}
use Rattle.ytext.specs.View.{row_view}
use Rattle.ylink_arguments.specs.NameView.{names_view}
use Rattle.ysay_targets.specs.Leafrefs.{of_steps}
use Rattle.ysay_targets.proofs.leafrefs.of_steps.Given as goal

abbrev pub invariant-loop-at : goal.invariant-loop-at
invariant-loop-at l = of_steps l.scope (option_map (λ p. p.now) l.prefix) (string_bytes l.seen) (names_view (drop l.at l.names)) (row_view l.left)
    ≡ of_steps l.scope (option_map (λ p. p.now) l.prefix) [] (names_view l.names) (row_view l.fn.row)
