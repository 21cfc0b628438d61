use Rattle.std.proofs.Common.{◌≡◌, ◌++◌, drop, codes, string_bytes}
use Rattle.std.specs.List.{flat_map}
use Rattle.yspec.specs.document.Fault.{Fault}
use Rattle.yspec.specs.document.Sorting.{IsSorted}
use Rattle.yschema_model.specs.View.{view}
use Rattle.yinst_tree.specs.View.{tree_view}
use Rattle.ycheck.specs.View.{views}
use Rattle.ysay_json.specs.FaultData.{json_line}
use Rattle.ysay_json.proofs.line.json_lines.Given as goal

-- the text so far, and the lines of the faults that are left
abbrev pub invariant-loop-number : goal.invariant-loop-number
invariant-loop-number l = IsSorted (tree_view l.tree)
    → string_bytes l.text ++ flat_map (λ (f : Fault). json_line (view l.schema) (tree_view l.tree) f ++ codes "\n") (views (drop l.number l.faults))
    ≡ flat_map (λ (f : Fault). json_line (view l.schema) (tree_view l.tree) f ++ codes "\n") (views l.faults)
