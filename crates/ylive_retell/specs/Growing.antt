-- Growths of an index: entries that are there for instances that come, and room for nodes that join keys.
use Rattle.std.specs.Prelude.{◌≡◌, ℕ, ◌≤◌, true, false, List, Option, is_some}
use Rattle.std.specs.List.{count_by}
use Rattle.std.specs.Option.{option_map_or}
use Rattle.yschema_model.specs.declared.node.SchemaId.{SchemaId}
use Rattle.yspec.specs.types.Types.{Val}
use Rattle.ystore.specs.Entries.{Entry}
use Rattle.ystore.specs.Store.{held_at, entry_at, instances_at, holders_at, reads, node_count, same_key}
use Rattle.ystore_rows.specs.declared.row.NodeId.{NodeId}
use Rattle.ystore_rows.specs.declared.row.Row.{Row}
use Rattle.ystore.specs.declared.key.Key.{Key}
use Rattle.ystore.specs.declared.key.Key.TheVariants.{Value}
use Rattle.ystore.specs.declared.nodes.Nodes.{Nodes}
use Rattle.ylive_retell.specs.Standing.{Every}

-- how many nodes are awaited at a key
abbrev pub awaited_of : Option Entry → ℕ
awaited_of e = option_map_or (λ e. e.awaited) e 0

abbrev pub awaited_at : Nodes → Key → ℕ
awaited_at nodes key = awaited_of (entry_at nodes key)

-- how many of the nodes join a key
abbrev pub times_joined : Key → List (Key × NodeId) → ℕ
times_joined key pairs = count_by (λ p. same_key p.0 key) pairs

-- how many of some values a key is of
abbrev pub times_valued : Key → List (SchemaId × Val) → ℕ
times_valued key values = count_by (λ p. same_key (Value p.0 p.1) key) values

-- at each key as many nodes are awaited as join it
abbrev pub AreAwaited : Nodes → List (Key × NodeId) → Type 0
AreAwaited nodes pairs = (key : Key) → times_joined key pairs ≤ awaited_at nodes key

-- there is an entry for each value
abbrev pub IsThere : Nodes → SchemaId × Val → Type 0
IsThere nodes p = is_some (entry_at nodes (Value p.0 p.1)) ≡ true

abbrev pub AreThere : Nodes → List (SchemaId × Val) → Type 0
AreThere nodes pairs = Every (IsThere nodes) pairs

-- what is held at one key is changed, and at no key that isn't the same
pub record Changes (key : Key) (change : Option Entry → Option Entry) (before after : Nodes) : Type 0 where
  pub changed : entry_at after key ≡ change (entry_at before key)
  pub others : (other : Key) → same_key key other ≡ false → entry_at after other ≡ entry_at before other

-- entries that hold nothing may come, and room; all else stays
pub record Grows (before after : Nodes) : Type 0 where
  pub held : (row : Row) → held_at after row ≡ held_at before row
  pub instances : (key : Key) → instances_at after key ≡ instances_at before key
  pub holders : (key : Key) → holders_at after key ≡ holders_at before key
  pub awaited : (key : Key) → awaited_at before key ≤ awaited_at after key
  pub there : (key : Key) → is_some (entry_at before key) ≡ true → is_some (entry_at after key) ≡ true
  pub reads : reads after ≡ reads before
  pub node_count : node_count after ≡ node_count before
