use Rattle.std.proofs.Common.{suc}
use Rattle.std.specs.Option.{option_map_or}
use Rattle.ylive_list.proofs.down.+enter_way.Given as goal

-- the node above comes before
abbrev pub decreases-enter_way : goal.decreases-enter_way
decreases-enter_way l = option_map_or (λ id. suc id.0) l.id 0
