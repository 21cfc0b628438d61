use Rattle.std.proofs.Common.{◌≡◌, ◌≤◌, ◌+◌, drop}
use Rattle.ylive.specs.Answers.{after_edits}
use Rattle.ylive.specs.View.{view, edits_view}
use Rattle.yanglive_uses.specs.Editing.{accepted_count}
use Rattle.yanglive_uses.proofs.editing.apply_all.Given as goal

abbrev pub invariant-loop-edit : goal.invariant-loop-edit
invariant-loop-edit l = let left = edits_view (drop l.edit-index l.edits) in record {
  tree : after_edits (edits_view l.edits) (view l.fn.live) ≡ after_edits left (view l.live);
  count : accepted_count (view l.fn.live) (edits_view l.edits) ≡ l.accepted + accepted_count (view l.live) left;
  few : l.accepted ≤ l.edit-index;
}
