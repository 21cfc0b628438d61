-- A store as finite maps: what is held of each row, and what is held at each key.
use Rattle.std.specs.Prelude.{◌≡◌, ℕ, ◌+◌, ◌<◌, Bool, true, false, eqb, List, [], Option, Some, None, is_some, option_map, if◌then◌else◌, length, IfSome}
use Rattle.std.specs.Option.{option_map_or}
use Rattle.std.specs.Ordering.{is_eq}
use Rattle.std.specs.declared.alloc.Global.{Global}
use Rattle.std.specs.declared.cmp.Ordering.{Ordering}
use Rattle.std.specs.BTreeMap as map
use Rattle.slab.specs.Slab as slab
use Rattle.ycheck.specs.declared.fault.FaultCode.{FaultCode}
use Rattle.yschema_model.specs.declared.node.SchemaId.{SchemaId}
use Rattle.ystore_rows.specs.Rows.{Child}
use Rattle.ystore.specs.Held.{Held, Label, held_of}
pub use Rattle.ystore.specs.Held.{new_held, with_children, with_told, with_total, with_room, with_play, with_judged, with_same}
use Rattle.ystore.specs.Entries as entries
use Rattle.ystore.specs.Index.{entry_by}
use Rattle.ystore_rows.specs.Within.{place_of}
use Rattle.ystore.specs.contracts.key.KeyOrd.TheImpl.{ghosts}
use Rattle.ystore_rows.specs.declared.row.NodeId.{NodeId}
use Rattle.ystore_rows.specs.declared.row.Row.{Row}
use Rattle.ystore_rows.specs.declared.row.Row.TheVariants.{Top, Below}
use Rattle.ystore.specs.declared.key.Key.{Key}
use Rattle.ystore.specs.declared.entry.Entry.{Entry}
use Rattle.ystore.specs.declared.record.Record.{Record}
use Rattle.ystore.specs.declared.nodes.Nodes.{Nodes}

abbrev pub record_at : Nodes → Row → Option Record
record_at nodes Top = Some nodes.top
record_at nodes (Below id) = slab.get nodes.records id.0

-- what is held of a row; nothing where no such node is stored
abbrev pub held_at : Nodes → Row → Option Held
held_at nodes row = option_map held_of (record_at nodes row)

-- keys in their order
abbrev pub key_cmp : Key → Key → Ordering
key_cmp = ghosts.cmp

abbrev pub entry_in : Nodes → Key → Option Entry
entry_in nodes key = map.get key_cmp nodes.index key

-- what is held at a key; nothing where no entry was made ready
abbrev pub entry_at : Nodes → Key → Option entries.Entry
entry_at nodes key = entry_by key_cmp nodes.index key

-- where it lies
abbrev pub alloc : Nodes → Global
alloc nodes = nodes.alloc

-- how often it was lent to edits
abbrev pub loans : Nodes → ℕ
loans nodes = nodes.count.loans.calls

-- how many reading calls there were
abbrev pub reads : Nodes → ℕ
reads nodes = nodes.count.reads.calls

-- how many nodes are stored, and for how many more there is room
abbrev pub node_count : Nodes → ℕ
node_count nodes = slab.slab_len nodes.records

-- at which place among those of its schema node a node was put in its row; rows alone say where it stands since
abbrev pub place_put : Nodes → NodeId → ℕ
place_put nodes id = option_map_or (λ r. place_of r.extent) (record_at nodes (Below id)) 0

-- ---- parts of what is held

abbrev pub label_at : Nodes → NodeId → Option Label
label_at nodes id = option_map_or (λ held. held.shape.label) (held_at nodes (Below id)) None

abbrev pub children_at : Nodes → Row → List Child
children_at nodes row = option_map_or (λ held. held.shape.children) (held_at nodes row) []

abbrev pub play_at : Nodes → Row → List (FaultCode × SchemaId)
play_at nodes row = option_map_or (λ held. held.told.play) (held_at nodes row) []

abbrev pub same_at : Nodes → NodeId → List Bool
same_at nodes id = option_map_or (λ held. held.told.same) (held_at nodes (Below id)) []

abbrev pub total_at : Nodes → Row → ℕ
total_at nodes row = option_map_or (λ held. held.total) (held_at nodes row) 0

abbrev pub instances_at : Nodes → Key → ℕ
instances_at nodes key = option_map_or (λ e. e.instances) (entry_at nodes key) 0

abbrev pub holders_at : Nodes → Key → List NodeId
holders_at nodes key = option_map_or (λ e. e.nodes) (entry_at nodes key) []

-- ---- what calls do

-- one more reading call is counted, and all else stays
pub record CountsOne (before after : Nodes) : Type 0 where
  pub counted : reads after ≡ reads before + 1
  pub kept : after ≡ record before { count = after.count }

abbrev pub same_row : Row → Row → Bool
same_row Top Top = true
same_row (Below m) (Below n) = eqb m.0 n.0
same_row _ _ = false

abbrev pub same_key : Key → Key → Bool
same_key k l = is_eq (key_cmp k l)

abbrev pub there : {A : Type 0} → Option A → ℕ
there o = if is_some o then 1 else 0

-- what is held of one row is changed, and all else stays
pub record ChangesRow (row : Row) (change : Option Held → Option Held) (before after : Nodes) : Type 0 where
  pub changed : held_at after row ≡ change (held_at before row)
  pub others : (other : Row) → same_row row other ≡ false → held_at after other ≡ held_at before other
  pub entries : (key : Key) → entry_at after key ≡ entry_at before key
  pub reads : reads after ≡ reads before
  pub node_count : node_count after + there (held_at before row) ≡ node_count before + there (held_at after row)

-- what is held at one key is changed, and all else stays
pub record ChangesEntry (key : Key) (change : Option entries.Entry → Option entries.Entry) (before after : Nodes) : Type 0 where
  pub changed : entry_at after key ≡ change (entry_at before key)
  pub others : (other : Key) → same_key key other ≡ false → entry_at after other ≡ entry_at before other
  pub held : (row : Row) → held_at after row ≡ held_at before row
  pub reads : reads after ≡ reads before
  pub node_count : node_count after ≡ node_count before

-- all stays
pub record Stays (before after : Nodes) : Type 0 where
  pub held : (row : Row) → held_at after row ≡ held_at before row
  pub entries : (key : Key) → entry_at after key ≡ entry_at before key
  pub reads : reads after ≡ reads before
  pub node_count : node_count after ≡ node_count before

-- a row has room for a child, if there is such a row
abbrev pub has_room : Nodes → Row → Type 0
has_room nodes row = IfSome (held_at nodes row) (λ held. length held.shape.children < held.room)

-- an entry awaits a node, if there is such an entry
abbrev pub is_awaited : Nodes → Key → Type 0
is_awaited nodes key = IfSome (entry_at nodes key) (λ e. 0 < e.awaited)

-- a row has room for one child more, and all else stays
pub record MakesRoom (row : Row) (before after : Nodes) : Type 0 where
  pub room : ℕ
  pub enough : length (children_at before row) < room
  pub changed : ChangesRow row (option_map (with_room room)) before after
