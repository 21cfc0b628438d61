-- What a change of a row takes away.
use Rattle.std.specs.Prelude.{ℕ, Option, Some, None}
use Rattle.std.specs.Option.{option_map_or}
use Rattle.ystore.specs.Store.{total_at}
use Rattle.ystore_rows.specs.declared.row.NodeId.{NodeId}
use Rattle.ystore_rows.specs.declared.row.Row.TheVariants.{Below}
use Rattle.ystore.specs.declared.nodes.Nodes.{Nodes}
use Rattle.ystore_tree.specs.declared.swapping.Change.{Change}
use Rattle.ystore_tree.specs.declared.swapping.Change.TheVariants.{Add, Put, Take, Move}

-- the node that goes
abbrev pub gone_of : Change → Option NodeId
gone_of (Add new) = None
gone_of (Put old new) = Some old
gone_of (Take old place) = Some old
gone_of (Move id from to) = None

abbrev pub total_of : Nodes → Option NodeId → ℕ
total_of nodes id = option_map_or (λ i. total_at nodes (Below i)) id 0
