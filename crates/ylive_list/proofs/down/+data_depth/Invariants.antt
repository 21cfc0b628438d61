use Rattle.std.proofs.Common.{suc}
use Rattle.std.specs.Option.{option_map_or}
use Rattle.ylive_list.proofs.down.+data_depth.Given as goal

-- the node above comes before
abbrev pub decreases-data_depth : goal.decreases-data_depth
decreases-data_depth l = option_map_or (λ id. suc id.0) l.id 0
