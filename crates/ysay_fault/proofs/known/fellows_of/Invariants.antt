use Rattle.std.proofs.Common.{◌≡◌, ◌++◌, drop, map}
use Rattle.yschema_model.specs.View as schema_view
use Rattle.yinst_tree.specs.View.{tree_view}
use Rattle.ycheck.specs.View.{views}
use Rattle.ysay_fault.specs.FoundFellows.{AreRight, fellow_of}
use Rattle.ysay_fault.proofs.known.fellows_of.Given as goal

-- the fellows so far with those of the faults that are left
abbrev pub invariant-loop-fault : goal.invariant-loop-fault
invariant-loop-fault l = let told = fellow_of (schema_view.view l.schema) (tree_view l.tree) in record {
  right : AreRight (schema_view.view l.schema) (tree_view l.tree) l.known;
  told : l.fellows.items ++ map told (views (drop l.fault-index l.faults)) ≡ map told (views l.faults);
}
