use Rattle.std.proofs.Common.{suc}
use Rattle.std.specs.Option.{option_map_or}
use Rattle.ylive_list.proofs.absent.+data_steps.Given as goal

-- the node above comes before
abbrev pub decreases-data_steps : goal.decreases-data_steps
decreases-data_steps l = option_map_or (λ id. suc id.0) l.id 0
