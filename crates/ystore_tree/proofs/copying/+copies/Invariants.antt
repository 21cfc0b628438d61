use Rattle.std.proofs.Common.{◌≡◌, ◌+◌, ◌-◌, ◌*◌, length, map, take}
use Rattle.yinst_tree.specs.View.{view}
use Rattle.ystore.specs.Store.{children_at}
use Rattle.ystore.specs.Viewed.{viewed}
use Rattle.ystore_rows.specs.declared.row.Row.TheVariants.{Below}
use Rattle.ystore_tree.specs.Copies.{stored_at, listed_below}
use Rattle.ystore_tree.proofs.copying.+copies.Given as goal

-- one level less
abbrev pub decreases-copy_row : goal.decreases-copy_row
decreases-copy_row l = 2 * l.levels

abbrev pub decreases-copy_children : goal.decreases-copy_children
decreases-copy_children l = 2 * l.levels + 1

abbrev pub invariant-copy_children-loop-child : goal.invariant-copy_children-loop-child
invariant-copy_children-loop-child l =
    map view l.nodes.items
    ≡ map (λ c. (stored_at (viewed l.view) c, listed_below l.levels (viewed l.view) (Below c.1))) (take (length l.nodes.items) (children_at (viewed l.view) l.above))

-- the children that are left
abbrev pub decreases-copy_children-loop-child : goal.decreases-copy_children-loop-child
decreases-copy_children-loop-child l = length (children_at (viewed l.view) l.above) - length l.nodes.items
