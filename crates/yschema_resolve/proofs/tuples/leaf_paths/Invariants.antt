use Rattle.std.proofs.Common.{◌≡◌, ◌++◌, drop, map}
use Rattle.yspec.specs.linking.SchemaNodes.{leaf_path}
use Rattle.yschema_model.specs.Layout.{numbers_of}
use Rattle.yschema_resolve.specs.TuplesView.{way_view}
use Rattle.yschema_resolve.proofs.tuples.leaf_paths.Given as goal

abbrev pub invariant-loop-way : goal.invariant-loop-way
invariant-loop-way l = map (λ path. numbers_of path.items) l.paths.items
    ++ map leaf_path (map way_view (drop l.way-index l.ways))
    ≡ map leaf_path (map way_view l.ways)
