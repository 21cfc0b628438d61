-- References and ways, as the specification's.
use Rattle.std.specs.Prelude.{List, map}
use Rattle.ysay_circles.specs.Circles as spec
use Rattle.ysay_circles.specs.declared.circles.Edge.{Edge}
use Rattle.ysay_circles.specs.declared.circles.Way.{Way}

abbrev pub edge_view : Edge → spec.Edge
edge_view e = record { source = e.source.now; line = e.line; target = e.target.now }

abbrev pub edges_view : List Edge → List spec.Edge
edges_view = map edge_view

abbrev pub way_view : Way → spec.Way
way_view w = record { start = w.start.now; steps = edges_view w.steps.items; tip = w.tip.now }

abbrev pub ways_view : List Way → List spec.Way
ways_view = map way_view
