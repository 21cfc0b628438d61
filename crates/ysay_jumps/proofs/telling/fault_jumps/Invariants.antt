use Rattle.std.proofs.Common.{◌≡◌, ◌++◌, drop, string_bytes}
use Rattle.std.specs.List.{flat_map}
use Rattle.yspec.specs.document.Sorting.{IsSorted}
use Rattle.yschema_model.specs.View.{view}
use Rattle.yinst_tree.specs.View.{tree_view}
use Rattle.ycheck.specs.View.{views}
use Rattle.ysay_jumps.specs.Jumps.{fault_jump}
use Rattle.ysay_jumps.proofs.telling.fault_jumps.Given as goal

-- the text so far, and the lines of the faults that are left
abbrev pub invariant-loop-number : goal.invariant-loop-number
invariant-loop-number l = IsSorted (tree_view l.tree)
    → string_bytes l.text ++ flat_map (fault_jump l.file l.bytes (view l.schema) (tree_view l.tree)) (views (drop l.number l.faults))
    ≡ flat_map (fault_jump l.file l.bytes (view l.schema) (tree_view l.tree)) (views l.faults)
