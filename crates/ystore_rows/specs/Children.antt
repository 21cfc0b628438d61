-- The children of a node as contracts see them.
use Rattle.std.specs.Prelude.{ℕ, List}
use Rattle.ystore_rows.specs.Rows.{Child}
use Rattle.ybase_tiers.specs.Tiers as tiers
use Rattle.ystore_rows.specs.declared.children.Children.{Children}

-- the row
abbrev pub nodes_of : Children → List Child
nodes_of children = tiers.tiered children.nodes

-- how many it has room for
abbrev pub room_of : Children → ℕ
room_of children = tiers.room_of children.nodes
