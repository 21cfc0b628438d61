use Rattle.std.proofs.Common.{◌≡◌, ◌≤◌, ◌-◌, length, take}
use Rattle.ybase_output.specs.Sink.{followed_by}
use Rattle.ybase_output.proofs.sink.write_all.Given as goal

abbrev pub invariant-loop-at : goal.invariant-loop-at
invariant-loop-at g l =
    let taken = g.S.Sink.taken in
    record {
      within : l.at ≤ length l.bytes;
      taken : taken l.sink ≡ followed_by (taken l.fn.sink) (take l.at l.bytes);
      failures : g.S.Sink.failures l.sink ≡ g.S.Sink.failures l.fn.sink;
    }

abbrev pub decreases-loop-at : goal.decreases-loop-at
decreases-loop-at g l = length l.bytes - l.at
