use Rattle.std.proofs.Common.{◌≡◌, ◌++◌, drop}
use Rattle.yapp_session.specs.View.{edits_view}
use Rattle.yapp_session.proofs.copying.copy_edits.Given as goal

abbrev pub invariant-loop-edit : goal.invariant-loop-edit
invariant-loop-edit l = edits_view l.copies.items ++ edits_view (drop l.edit-index l.edits) ≡ edits_view l.edits
