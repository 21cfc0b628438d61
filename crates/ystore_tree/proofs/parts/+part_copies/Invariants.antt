use Rattle.std.proofs.Common.{◌≡◌, ◌+◌, ◌*◌, ◌≤◌, option_map}
use Rattle.std.specs.Prelude.{option_and_then}
use Rattle.ytype.specs.View.{raw_of}
use Rattle.ystore.specs.Store.{label_at}
use Rattle.yspec.specs.Forest.{end, node, levels}
use Rattle.ystore.specs.Views.{store_of, lent}
use Rattle.ystore_rows.specs.declared.row.Row.{Row}
use Rattle.ystore_tree.specs.Hanging.{Numbered, Branches, Stands}
use Rattle.ystore_tree.specs.Parts.{OnlyReads}
use Rattle.ystore_tree.proofs.PartLemmas.{SoFar}
use Rattle.ystore_tree.proofs.parts.+part_copies.Given as goal

-- one level less
abbrev pub decreases-copy_part : goal.decreases-copy_part
decreases-copy_part l = 2 * l.depth

abbrev pub decreases-copy_child : goal.decreases-copy_child
decreases-copy_child l = 2 * l.depth + 1

abbrev pub invariant-copy_part-loop-place : goal.invariant-copy_part-loop-place
invariant-copy_part-loop-place l =
    record {
      same_reference : lent l.counted ≡ lent l.fn.counted;
      held : option_map raw_of l.value ≡ option_and_then (λ l. l.value) (label_at (store_of l.fn.counted) l.fn.id);
      kept : OnlyReads (store_of l.fn.counted) (store_of l.counted);
      part : (above : Row) (n : Numbered) (below : Branches) → n.id ≡ l.fn.id → Stands (store_of l.fn.counted) above (node n below end)
          → levels (node n below end) ≤ l.fn.depth
          → SoFar n below l.place l.fn.depth (store_of l.fn.counted) (store_of l.counted) l.below.items l.fn.numbers.items l.numbers.items;
    }
