use Rattle.std.proofs.Common.{◌≡◌, ◌≤◌, length, take}
use Rattle.ylive_facts.specs.Keys.{holdings}
use Rattle.ylive_retell.proofs.staying.staying.Given as goal

abbrev pub invariant-loop-place : goal.invariant-loop-place
invariant-loop-place l =
    record {
      new : l.place ≤ length l.new;
      same : holdings (take l.place l.old) ≡ holdings (take l.place l.new);
    }
