use Rattle.std.proofs.Common.{◌≡◌, ◌≤◌, ◌-◌}
use Rattle.std.specs.List.{insert}
use Rattle.ybase_tiers.specs.Tiers.{count_of, room_of, tiered, tiers_of}
use Rattle.ybase_tiers.proofs.tiers.Tiers.shift_on.Given as goal

-- with the one that is carried at its place they are what they shall be
abbrev pub invariant-loop-at : goal.invariant-loop-at
invariant-loop-at g l = record {
  row : insert (tiered l.self) l.at l.carried ≡ insert (tiered l.fn.self) l.place l.fn.x;
  order : l.at ≤ l.end;
  len : count_of l.self ≡ count_of l.fn.self;
  tiers : tiers_of l.self ≡ tiers_of l.fn.self;
  room : room_of l.self ≡ room_of l.fn.self;
}

abbrev pub decreases-loop-at : goal.decreases-loop-at
decreases-loop-at g l = l.end - l.at
