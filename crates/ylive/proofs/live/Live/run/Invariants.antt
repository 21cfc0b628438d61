use Rattle.std.proofs.Common.{◌≡◌, ◌+◌, ◌≤◌, false, take, length}
use Rattle.std.specs.Vec.{vec_len, vec_capacity}
use Rattle.ystore.specs.Store.{loans}
use Rattle.ylive.specs.View.{view, edits_view, outcomes_view}
use Rattle.ylive.proofs.RunLemmas.{Decided}
use Rattle.ylive.proofs.live.Live.run.Given as goal

abbrev pub invariant-loop-edit : goal.invariant-loop-edit
invariant-loop-edit l = record {
  decided : Decided (view l.fn.self) (view l.self) (edits_view (take l.edit-index l.edits)) (outcomes_view l.outcomes.items);
  fresh : (view l.self).is_stale ≡ false;
  counted : vec_len l.outcomes ≡ l.edit-index;
  tried : loans l.self.nodes ≡ loans l.fn.self.nodes + l.edit-index;
  room : length l.edits ≤ vec_capacity l.outcomes;
}
