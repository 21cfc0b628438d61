use Rattle.std.proofs.Common.{◌≡◌, drop, map}
use Rattle.std.specs.List.{list_all}
use Rattle.yspec.specs.linking.NodeBreaks.{is_config, leaf_named}
use Rattle.yschema_resolve.specs.TuplesView.{way_view}
use Rattle.yschema_resolve.proofs.tuples.are_all.Given as goal

abbrev pub invariant-loop-way : goal.invariant-loop-way
invariant-loop-way l = list_all (is_config l.config) (map leaf_named (map way_view (drop l.way-index l.ways)))
    ≡ list_all (is_config l.config) (map leaf_named (map way_view l.ways))
