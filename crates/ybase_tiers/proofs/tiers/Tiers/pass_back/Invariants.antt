use Rattle.std.proofs.Common.{◌≡◌, ◌*◌, ◌-◌}
use Rattle.std.specs.List.{insert}
use Rattle.ybase_tiers.specs.Tiers.{count_of, end_of, room_of, tiered, tiers_of}
use Rattle.ybase_tiers.proofs.tiers.Tiers.pass_back.Given as goal

-- with the one that is carried behind its tier they are what they shall be
abbrev pub invariant-loop-passed : goal.invariant-loop-passed
invariant-loop-passed g l = record {
  row : insert (tiered l.self) ((l.tiers - l.passed) * 1024) l.carried ≡ insert (tiered l.fn.self) (end_of l.fn.self) l.fn.x;
  len : count_of l.self ≡ count_of l.fn.self;
  tiers : tiers_of l.self ≡ tiers_of l.fn.self;
  room : room_of l.self ≡ room_of l.fn.self;
}
