use Rattle.std.proofs.Common.{◌≡◌, ◌*◌}
use Rattle.std.specs.List.{insert}
use Rattle.ybase_tiers.specs.Tiers.{count_of, room_of, tiered, tiers_of}
use Rattle.ybase_tiers.proofs.tiers.Tiers.pass_on.Given as goal

-- with the one that is carried in front of its tier they are what they shall be
abbrev pub invariant-loop-at : goal.invariant-loop-at
invariant-loop-at g l = record {
  row : insert (tiered l.self) (l.at * 1024) l.carried ≡ insert (tiered l.fn.self) (l.tier * 1024) l.fn.x;
  len : count_of l.self ≡ count_of l.fn.self;
  tiers : tiers_of l.self ≡ tiers_of l.fn.self;
  room : room_of l.self ≡ room_of l.fn.self;
}
