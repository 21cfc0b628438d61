use Rattle.std.proofs.Common.{◌≡◌, ◌++◌, drop, string_bytes}
use Rattle.yspec.specs.document.Sorting.{IsSorted}
use Rattle.yschema_model.specs.View as schema_view
use Rattle.yinst_tree.specs.View.{tree_view}
use Rattle.ycheck.specs.View as fault_view
use Rattle.ysay_session.specs.AnswerText.{more_text}
use Rattle.ysay_session.proofs.answers.with_more.Given as goal

-- the text so far, and the objects of the faults that are left
abbrev pub invariant-loop-fault : goal.invariant-loop-fault
invariant-loop-fault l = let s = schema_view.view l.schema in let t = tree_view l.tree in
    IsSorted t → string_bytes l.text ++ more_text s t (fault_view.views (drop l.fault-index l.faults))
    ≡ string_bytes l.fn.start ++ more_text s t (fault_view.views l.faults)
