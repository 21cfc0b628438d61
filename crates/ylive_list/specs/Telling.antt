-- Stores that hold of each node what is told there.
use Rattle.std.specs.Prelude.{◌≡◌, ◌+◌, ℕ, zero, suc, ◌&&◌, Bool, true, false, List, [], ◌∷◌, Option, if◌then◌else◌, option_and_then, nat_lt, option_map, length}
use Rattle.std.specs.List.{sum_by}
use Rattle.std.specs.Option.{option_map_or}
use Rattle.yspec.specs.Forest.{end, node, weigh}
use Rattle.yspec.specs.types.Types.{Raw, taken}
use Rattle.yspec.specs.schema.Schema.{Schema, SchemaNode, Kind, leaf_list, list, LeafPath, children_of}
use Rattle.yspec.specs.document.Instances.{Tuple, times_in}
use Rattle.yspec.specs.document.Faults.{Times, RowTimes, row_times, faults_at}
use Rattle.yspec_play.specs.Merging.{absences_below}
use Rattle.ystore.specs.Held as held
use Rattle.ystore.specs.Store.{held_at, play_at, total_at}
use Rattle.ystore_rows.specs.declared.row.Row.{Row}
use Rattle.ystore_rows.specs.declared.row.Row.TheVariants.{Top, Below}
use Rattle.ystore.specs.declared.record.Judged.{Judged}
use Rattle.ystore.specs.declared.record.Judged.TheVariants.{Right, Wrong, Missing}
use Rattle.ystore.specs.declared.nodes.Nodes.{Nodes}
use Rattle.ystore_tree.specs.Hanging.{Numbered, Branches, child_of, stored_of, tree_of}
use Rattle.ylive_list.specs.Listed.{absences_of, own_told}

-- ---- what others have too

abbrev pub is_twice : RowTimes → ℕ → ℕ → Option Tuple → Bool
is_twice row number u vs = option_map_or (λ vs. nat_lt 1 (row.tuples number u vs)) vs false

-- of the key (0) or a `unique`, from one on
abbrev pub are_twice : RowTimes → ℕ → (ℕ → Option Tuple) → ℕ → List (List LeafPath) → List Bool
are_twice row number tuples u [] = []
are_twice row number tuples u (x ∷ xs) = is_twice row number u (tuples u) ∷ are_twice row number tuples (suc u) xs

-- of an entry, for the key and each `unique`, whether another has its tuple; of an item that may stand but once, whether another
-- has its value
abbrev pub same_of : RowTimes → SchemaNode → Kind → Option Raw → (ℕ → Option Tuple) → List Bool
same_of row n (list shape amount) value tuples =
    is_twice row n.number 0 (tuples 0) ∷ are_twice row n.number tuples 1 shape.uniques
same_of row n (leaf_list type defaults amount) value tuples = if n.distinct_items
    then option_map_or (λ v. nat_lt 1 (row.items n.number v)) (option_and_then (taken type.type) value) false ∷ [] else []
same_of row n _ value tuples = []

-- the same by number
abbrev pub is_same : RowTimes → SchemaNode → Kind → Option Raw → (ℕ → Option Tuple) → ℕ → Bool
is_same row n (list shape amount) value tuples u = is_twice row n.number u (tuples u)
is_same row n (leaf_list type defaults amount) value tuples zero =
    n.distinct_items && option_map_or (λ v. nat_lt 1 (row.items n.number v)) (option_and_then (taken type.type) value) false
is_same row n _ value tuples u = false

-- ---- totals

abbrev pub is_told : Judged → Bool
is_told Right = false
is_told (Wrong app_tag) = true
is_told Missing = true

-- how many faults are told at a node
abbrev pub number_of : held.Told → ℕ
number_of told =
    (if is_told told.judged then 1 else 0) + (sum_by (λ b. if b then 1 else 0) told.same + length told.play)

abbrev pub number_at : Nodes → Row → ℕ
number_at nodes row = option_map_or number_of (option_map (λ h. h.told) (held_at nodes row)) 0

-- and at all nodes of a forest
abbrev pub all_told : Nodes → Branches → ℕ
all_told nodes f = weigh (λ n. number_at nodes (Below n.id)) f

-- the total of each row is how many faults are told at it, and of the nodes of the row and below it
abbrev pub AreTotals : Nodes → Branches → Type 0
AreTotals nodes end = Unit {0}
AreTotals nodes (node n below after) = (total_at nodes (Below n.id) ≡ number_at nodes (Below n.id) + all_told nodes below)
    × AreTotals nodes below × AreTotals nodes after

-- ---- a document

-- a store holds of a node what is told there
pub record TellsAt (times : Times) (row : RowTimes) (schema : Schema) (nodes : Nodes) (n : Numbered) (below : Branches) : Type 0 where
  pub own : own_told schema nodes (child_of n) ≡ faults_at times row schema (stored_of n) (tree_of below)
  pub play : absences_of (play_at nodes (Below n.id)) ≡ absences_below (children_of schema n.schema.0) (tree_of below)

-- and of each node of a row and below it
abbrev pub TellsBelow : Times → RowTimes → Schema → Nodes → Branches → Type 0
TellsBelow times row schema nodes end = Unit {0}
TellsBelow times row schema nodes (node n below after) = TellsAt times row schema nodes n below
    × TellsBelow times (row_times schema (tree_of below)) schema nodes below × TellsBelow times row schema nodes after

-- it tells of a document that hangs on its top what is told of that, and how much in total
pub record Tells (schema : Schema) (nodes : Nodes) (f : Branches) : Type 0 where
  pub play : absences_of (play_at nodes Top) ≡ absences_below schema.nodes (tree_of f)
  pub below : TellsBelow (times_in schema (tree_of f)) (row_times schema (tree_of f)) schema nodes f
  pub totals : AreTotals nodes f
