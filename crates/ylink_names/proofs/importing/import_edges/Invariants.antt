use Rattle.std.proofs.Common.{◌≡◌, ◌++◌, drop, map, option_map}
use Rattle.yspec.specs.linking.Circles as spec
use Rattle.ybase_graph.specs.Edges.{edge_view}
use Rattle.ybase_preorder.specs.Layout.{labels_by}
use Rattle.ybase_preorder.specs.View.{slots_in}
use Rattle.ylink_grammar.specs.LinkView.{view}
use Rattle.ylink_grammar.specs.SourceView.{source_view}
use Rattle.ylink_names.specs.PrefixView.{AreModulesOf}
use Rattle.ylink_names.proofs.importing.import_edges.Given as goal

abbrev pub invariant-loop-number : goal.invariant-loop-number
invariant-loop-number l = let rows = slots_in l.sources.table in AreModulesOf l.places (view l.sources)
    → map (option_map edge_view) l.edges.items ++ map (spec.import_edge (view l.sources)) (labels_by source_view l.number (drop l.number rows))
    ≡ map (spec.import_edge (view l.sources)) (labels_by source_view 0 rows)
