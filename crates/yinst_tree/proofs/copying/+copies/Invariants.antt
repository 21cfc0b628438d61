use Rattle.std.proofs.Common.{◌≡◌, map, take}
use Rattle.yinst_tree.specs.View.{view}
use Rattle.yinst_tree.proofs.copying.+copies.Given as goal

abbrev pub invariant-copies_of-loop-stored : goal.invariant-copies_of-loop-stored
invariant-copies_of-loop-stored l = map view l.nodes.items ≡ map view (take l.stored-index l.row)
