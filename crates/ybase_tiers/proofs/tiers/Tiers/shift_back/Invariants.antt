use Rattle.std.proofs.Common.{◌≡◌, ◌≤◌}
use Rattle.std.specs.List.{insert}
use Rattle.ybase_tiers.specs.Tiers.{count_of, room_of, tiered}
use Rattle.ybase_tiers.proofs.tiers.Tiers.shift_back.Given as goal

-- with the one that is carried at its place they are what they shall be
abbrev pub invariant-loop-at : goal.invariant-loop-at
invariant-loop-at g l = record {
  row : insert (tiered l.self) l.at l.carried ≡ insert (tiered l.fn.self) l.end l.fn.x;
  order : l.place ≤ l.at;
  within : l.at ≤ l.end;
  len : count_of l.self ≡ count_of l.fn.self;
  room : room_of l.self ≡ room_of l.fn.self;
}

abbrev pub decreases-loop-at : goal.decreases-loop-at
decreases-loop-at g l = l.at
