use Rattle.std.proofs.Common.{◌≡◌, ◌++◌, drop, string_bytes}
use Rattle.std.specs.List.{flat_map}
use Rattle.yschema_model.specs.View.{view}
use Rattle.ysay_refusals.specs.Lines.{remark_line}
use Rattle.ysay_refusals.specs.View.{remarks_view}
use Rattle.ysay_refusals.proofs.lines.lines_of.Given as goal

-- the lines so far, and those of the remarks that are left, are those of all
abbrev pub invariant-loop-remark : goal.invariant-loop-remark
invariant-loop-remark l = string_bytes l.lines ++ flat_map (remark_line (view l.schema)) (remarks_view (drop l.remark-index l.remarks))
    ≡ flat_map (remark_line (view l.schema)) (remarks_view l.remarks)
