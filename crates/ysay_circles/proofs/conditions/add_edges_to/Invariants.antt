use Rattle.std.proofs.Common.{◌≡◌, ◌++◌, drop, map}
use Rattle.std.specs.List.{flat_map}
use Rattle.ylink_arguments.specs.NameView.{names_view}
use Rattle.ysay_text.specs.Labels.{label}
use Rattle.ysay_circles.specs.Conditions.{edge_to}
use Rattle.ysay_circles.specs.WayView.{edges_view}
use Rattle.ysay_circles.proofs.conditions.add_edges_to.Given as goal

abbrev pub invariant-loop-name : goal.invariant-loop-name
invariant-loop-name l = edges_view l.found.items ++ flat_map (edge_to (map (λ t. t.now) l.own) l.feature (label l.statement)) (names_view (drop l.name-index l.names))
    ≡ edges_view l.fn.found.items ++ flat_map (edge_to (map (λ t. t.now) l.own) l.feature (label l.statement)) (names_view l.names)
