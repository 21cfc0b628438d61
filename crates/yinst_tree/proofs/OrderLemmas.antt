-- Rows that ascend from a number on stand in the order of their schema nodes.
use Rattle.std.proofs.Common.{◌≡◌, ℕ, ◌&&◌, true, leb}
use Rattle.std.proofs.lemmas.Bool.{and_parts, leb-true}
use Rattle.yspec.specs.Forest.{end, node}
use Rattle.yspec.specs.document.Document.{Tree}
use Rattle.yspec.specs.document.Sorting.{StartsAt, IsSorted}
use Rattle.yinst_tree.specs.Order.{ascends_from, is_in_order}

starts_from : (least : ℕ) (t : Tree) → ascends_from least t ≡ true → StartsAt least t
starts_from least end all = tt
starts_from least (node s below after) all = leb-true least s.schema_number
    (and_parts (leb least s.schema_number) (ascends_from 0 below && ascends_from s.schema_number after) all).0

sorted_from : (least : ℕ) (t : Tree) → ascends_from least t ≡ true → IsSorted t
sorted_from least end all = tt
sorted_from least (node s below after) all =
    let others = (and_parts (leb least s.schema_number) (ascends_from 0 below && ascends_from s.schema_number after) all).1 in
    let both = and_parts (ascends_from 0 below) (ascends_from s.schema_number after) others in
    (starts_from s.schema_number after both.1, sorted_from 0 below both.0, sorted_from s.schema_number after both.1)

pub sorted_in_order : (t : Tree) → is_in_order t ≡ true → IsSorted t
sorted_in_order t all = sorted_from 0 t all
