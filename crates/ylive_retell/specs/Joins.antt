-- What stays while nodes leave keys and join them, and while instances come and go.
use Rattle.std.specs.Prelude.{◌≡◌, ℕ, ◌+◌, ◌-◌, ◌^◌, ◌<◌, ◌≤◌, true, List, Option, Some, None, is_some}
use Rattle.yspec.specs.types.Types.{Val}
use Rattle.yschema_model.specs.declared.node.SchemaId.{SchemaId}
use Rattle.ystore.specs.Store.{held_at, entry_at, instances_at, node_count, total_at}
use Rattle.ystore.specs.Index.{tidied}
use Rattle.ystore_rows.specs.declared.row.NodeId.{NodeId}
use Rattle.ystore_rows.specs.declared.row.Row.{Row}
use Rattle.ystore_rows.specs.declared.row.Row.TheVariants.{Top, Below}
use Rattle.ystore.specs.declared.key.Key.{Key}
use Rattle.ystore.specs.declared.nodes.Nodes.{Nodes}
use Rattle.ystore_tree.specs.Hanging.{Branches, shape_at, times}
use Rattle.ylive_marks.specs.Totals.{room_at, told_at, StandsIn, Totals}
use Rattle.ylive_marks.specs.Keys.{Agrees, Keys, Own, SameKeys, own_at, flag_of}
use Rattle.ylive_retell.specs.Standing.{Every}
use Rattle.ylive_retell.specs.Growing.{AreThere, awaited_at}
pub use Rattle.ylive_retell.specs.Growing.{times_valued}

-- shapes of rows and their room, and the number of nodes
pub record KeepsRows (before after : Nodes) : Type 0 where
  pub shapes : (row : Row) → shape_at after row ≡ shape_at before row
  pub rooms : (row : Row) → room_at after row ≡ room_at before row
  pub node_count : node_count after ≡ node_count before

-- how many nodes are awaited at each key
abbrev pub KeepsAwaited : Nodes → Nodes → Type 0
KeepsAwaited before after = (key : Key) → awaited_at after key ≡ awaited_at before key

-- entries that are there
abbrev pub KeepsThere : Nodes → Nodes → Type 0
KeepsThere before after = (key : Key) → is_some (entry_at before key) ≡ true → is_some (entry_at after key) ≡ true

-- how many instances each value has
abbrev pub KeepsInstances : Nodes → Nodes → Type 0
KeepsInstances before after = (key : Key) → instances_at after key ≡ instances_at before key

-- a node can hold a key that sets a flag, if it has the flag, or one of a value, if its own is taken by its type
abbrev pub fits_flag : Option ℕ → Own → Type 0
fits_flag (Some u) own = u < own.flags
fits_flag None own = own.wrong ≡ None

-- what is so of what is told at a node by no key
abbrev pub HasOwn : Option Own → (Own → Type 0) → Type 0
HasOwn None P = ⊥
HasOwn (Some own) P = P own

-- nodes of a forest, which can hold the keys that they join
abbrev pub CanHoldAll : Nodes → Branches → List (Key × NodeId) → Type 0
CanHoldAll nodes f pairs = Every (λ p. StandsIn (Below p.1) f × HasOwn (own_at nodes (Below p.1)) (fits_flag (flag_of p.0))) pairs

-- what is held of all rows stays, and keys have what they had; entries that hold nothing may be gone
pub record Tidies (before after : Nodes) : Type 0 where
  pub held : (row : Row) → held_at after row ≡ held_at before row
  pub keys : SameKeys before after
  pub awaited : KeepsAwaited before after
  pub node_count : node_count after ≡ node_count before

-- What is told agrees with an index again, and the totals are right; what no key tells stays, and all that is told of the
-- top and of nodes beside the forest.
pub record Follows (keys : Keys) (f : Branches) (before after : Nodes) : Type 0 where
  pub agrees : Agrees after keys f
  pub totals : Totals after f
  pub own : (row : Row) → own_at after row ≡ own_at before row
  pub top : told_at after Top ≡ told_at before Top
  pub beside : (id : NodeId) → times id.0 f ≡ 0 → told_at after (Below id) ≡ told_at before (Below id)
  pub totals_beside : (id : NodeId) → times id.0 f ≡ 0 → total_at after (Below id) ≡ total_at before (Below id)

-- the entry of a key isn't one that holds and awaits nothing
abbrev pub IsTidy : Nodes → Key → Type 0
IsTidy nodes key = tidied (entry_at nodes key) ≡ entry_at nodes key

-- There is an entry for each value that comes, none has too many instances then, and no more go than are there then.
pub record WithdrawsValues (nodes : Nodes) (comes goes : List (SchemaId × Val)) : Type 0 where
  pub there : AreThere nodes comes
  pub most : (key : Key) → instances_at nodes key + times_valued key comes ≤ 2 ^ 64 - 1
  pub few : (key : Key) → times_valued key goes ≤ instances_at nodes key + times_valued key comes
