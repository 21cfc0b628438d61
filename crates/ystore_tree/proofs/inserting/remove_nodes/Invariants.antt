use Rattle.std.proofs.Common.{◌≡◌, drop}
use Rattle.ystore.specs.declared.nodes.Nodes.{Nodes}
use Rattle.ystore.specs.Views.{store_of, lent}
use Rattle.ystore_tree.specs.Growing.{Removes}
use Rattle.ystore_tree.proofs.inserting.remove_nodes.Given as goal

-- whatever gives back those that are left gives back all
abbrev pub invariant-loop-id : goal.invariant-loop-id
invariant-loop-id l =
    (lent l.counted ≡ lent l.fn.counted)
    × ((last : Nodes) → Removes (drop l.id-index l.numbers) (store_of l.counted) last → Removes l.numbers (store_of l.fn.counted) last)
