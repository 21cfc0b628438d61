-- Which keys nodes hold, as an index has them, and what is told by them.
use Rattle.std.specs.Prelude.{◌≡◌, ℕ, suc, ◌<◌, ◌&&◌, ◌||◌, Bool, true, false, List, length, Option, Some, None, option_map, if◌then◌else◌, eqb, ltb, slice_get, unwrap_or, ◌+◌, ◌*◌, ◌≤◌}
use Rattle.std.specs.List.{sum_by}
use Rattle.std.specs.Option.{option_map_or}
use Rattle.std.specs.String.{string_bytes}
use Rattle.yspec.specs.text.Text.{Text}
use Rattle.yspec.specs.Forest.{levels}
use Rattle.ycheck.specs.declared.fault.FaultCode.{FaultCode}
use Rattle.yschema_model.specs.declared.node.SchemaId.{SchemaId}
use Rattle.ystore.specs.Held.{Told}
use Rattle.ystore.specs.Entries.{Entry}
use Rattle.ystore.specs.Store.{reads, entry_at, same_at, holders_at, instances_at, node_count, same_key, same_row, total_at}
use Rattle.ystore_rows.specs.declared.row.NodeId.{NodeId}
use Rattle.ystore_rows.specs.declared.row.Row.{Row}
use Rattle.ystore_rows.specs.declared.row.Row.TheVariants.{Top, Below}
use Rattle.ystore.specs.declared.key.Key.{Key}
use Rattle.ystore.specs.declared.key.Key.TheVariants.{Value, Item, Tuple, Texts}
use Rattle.ystore.specs.declared.record.Judged.{Judged}
use Rattle.ystore.specs.declared.record.Judged.TheVariants.{Right, Wrong, Missing}
use Rattle.ystore.specs.declared.nodes.Nodes.{Nodes}
use Rattle.ystore_tree.specs.Hanging.{Branches, shape_at, times}
use Rattle.ylive_marks.specs.Totals.{Totals, told_at, room_at, judged_at}

-- ---- slots

-- the number of the flag that a key sets at its nodes; a key of a value sets none, and neither does one of texts
abbrev pub flag_of : Key → Option ℕ
flag_of (Value target v) = None
flag_of (Item row list v) = Some 0
flag_of (Tuple row list u vs) = Some u
flag_of (Texts row list texts) = None

abbrev pub slot_for : Option ℕ → ℕ
slot_for None = 0
slot_for (Some u) = suc u

-- the slot of a node for a key: one for the value to which the node refers, or the texts by which it is found, and one for each flag
abbrev pub slot_of : Key → ℕ
slot_of key = slot_for (flag_of key)

-- the key that a node holds in a slot, by the node's number
abbrev pub Keys : Type 0
Keys = ℕ → ℕ → Option Key

-- with another key, or none, in a slot of a node
abbrev pub with_key : ℕ → ℕ → Option Key → Keys → Keys
with_key number slot key keys m s = if eqb m number && eqb s slot then key else keys m s

abbrev pub has_key : Keys → ℕ → Key → Bool
has_key keys number key = option_map_or (same_key key) (keys number (slot_of key)) false

-- the same key, or none in both
abbrev pub IsSimilar : Option Key → Option Key → Type 0
IsSimilar None None = Unit {0}
IsSimilar (Some key) (Some other) = same_key key other ≡ true
IsSimilar None (Some other) = ⊥
IsSimilar (Some key) None = ⊥

-- what is known of keys that are the same
pub record AreKeys : Type 0 where
  pub itself : (key : Key) → same_key key key ≡ true
  pub turned : (key other : Key) → same_key key other ≡ true → same_key other key ≡ true
  pub alike : (key other third : Key) → same_key key other ≡ true → same_key key third ≡ same_key other third
  pub found : (nodes : Nodes) (key other : Key) → same_key key other ≡ true → entry_at nodes key ≡ entry_at nodes other
  pub slots : (key other : Key) → same_key key other ≡ true → slot_of key ≡ slot_of other

-- ---- what an index has

-- how often a number is among nodes
abbrev pub among : ℕ → List NodeId → ℕ
among number ids = sum_by (λ id. if eqb id.0 number then 1 else 0) ids

-- the nodes that hold a key are those of a forest that hold it in its slot, each once
pub record Indexes (nodes : Nodes) (keys : Keys) (f : Branches) : Type 0 where
  pub holders : (key : Key) (number : ℕ) → among number (holders_at nodes key) ≡ (if has_key keys number key then 1 else 0)
  pub slots : (number slot : ℕ) (key : Key) → keys number slot ≡ Some key → slot_of key ≡ slot
  pub outside : (number slot : ℕ) → times number f ≡ 0 → keys number slot ≡ None

-- ---- what is told by it

-- whether more than one node holds a key
abbrev pub is_shared : Nodes → Option Key → Bool
is_shared nodes None = false
is_shared nodes (Some key) = ltb 1 (length (holders_at nodes key))

abbrev pub flag_at : Nodes → NodeId → ℕ → Bool
flag_at nodes id u = unwrap_or (slice_get (same_at nodes id) u) false

-- what is told of a node that refers to a value with so many instances
abbrev pub judged_by : ℕ → Judged
judged_by instances = if eqb instances 0 then Missing else Right

-- whether a key is one of texts
abbrev pub is_texts : Key → Bool
is_texts (Value target v) = false
is_texts (Item row list v) = false
is_texts (Tuple row list u vs) = false
is_texts (Texts row list texts) = true

-- how many instances are found of what a key names: of a key of texts none is ever missing
abbrev pub found_at : Nodes → Key → ℕ
found_at nodes key = if is_texts key then 1 else instances_at nodes key

abbrev pub is_missing : Judged → Bool
is_missing Right = false
is_missing (Wrong tag) = false
is_missing Missing = true

-- a node that holds a key is judged by what is found of that, and at others no instance is missing
abbrev pub IsJudged : Nodes → Option Key → Option Judged → Type 0
IsJudged nodes (Some key) judged = judged ≡ Some (judged_by (found_at nodes key))
IsJudged nodes None judged = option_map_or is_missing judged false ≡ false

-- What is told of the nodes of a forest is what an index tells of their keys.
pub record Tells (nodes : Nodes) (keys : Keys) (f : Branches) : Type 0 where
  pub flags : (id : NodeId) (u : ℕ) → 0 < times id.0 f → flag_at nodes id u ≡ is_shared nodes (keys id.0 (suc u))
  pub wide : (id : NodeId) (u : ℕ) (key : Key) → keys id.0 (suc u) ≡ Some key → u < length (same_at nodes id)
  pub judged : (id : NodeId) → 0 < times id.0 f → IsJudged nodes (keys id.0 0) (judged_at nodes id)

pub record Agrees (nodes : Nodes) (keys : Keys) (f : Branches) : Type 0 where
  pub index : Indexes nodes keys f
  pub tells : Tells nodes keys f

-- nothing is told of a node that a key tells
pub record TellsNoKey (nodes : Nodes) (id : NodeId) : Type 0 where
  pub flags : (u : ℕ) → flag_at nodes id u ≡ false
  pub judged : option_map_or is_missing (judged_at nodes id) false ≡ false

-- ---- changes

-- all keys have the instances and the nodes that they had
pub record SameKeys (before after : Nodes) : Type 0 where
  pub holders : (key : Key) → holders_at after key ≡ holders_at before key
  pub instances : (key : Key) → instances_at after key ≡ instances_at before key

-- a node can hold a key that sets a flag, or one of a value: it has the flag, or nothing is told of its value
abbrev pub CanHold : Nodes → NodeId → Option ℕ → Type 0
CanHold nodes id (Some u) = u < length (same_at nodes id)
CanHold nodes id None = judged_at nodes id ≡ Some Right

-- whether the flag of a row changes where a node comes to so many fellows, or goes from them: its own, and that of a single
-- fellow
abbrev pub is_touched : NodeId → Option NodeId → ℕ → Row → Bool
is_touched id fellow fellows row =
    (ltb 0 fellows && same_row (Below id) row) || (eqb fellows 1 && option_map_or (λ other. same_row (Below other) row) fellow false)

-- whether a row is below one of these nodes
abbrev pub is_holder : List NodeId → Row → Bool
is_holder ids Top = false
is_holder ids (Below id) = ltb 0 (among id.0 ids)

-- what is told at some rows is changed, and at no other
abbrev pub ChangesAt : (Row → Bool) → (Told → Told) → Nodes → Nodes → Type 0
ChangesAt touched change before after =
    (row : Row) → told_at after row ≡ (if touched row then option_map change (told_at before row) else told_at before row)

abbrev pub wrong_of : Judged → Option (Option Text)
wrong_of Right = None
wrong_of (Wrong tag) = Some (option_map string_bytes tag)
wrong_of Missing = None

-- what is told by no key: a value that its type doesn't take, and what isn't stored; and how many flags there are
pub record Own : Type 0 where
  pub wrong : Option (Option Text)
  pub play : List (FaultCode × SchemaId)
  pub flags : ℕ

abbrev pub own_of : Told → Own
own_of told = record { wrong = wrong_of told.judged; play = told.play; flags = length told.same }

abbrev pub own_at : Nodes → Row → Option Own
own_at nodes row = option_map own_of (told_at nodes row)

-- what is held at one key is changed, and what is told; all else stays
pub record ChangesKey (key : Key) (change : Entry → Entry) (before after : Nodes) : Type 0 where
  pub changed : entry_at after key ≡ option_map change (entry_at before key)
  pub others : (other : Key) → same_key key other ≡ false → entry_at after other ≡ entry_at before other
  pub shapes : (row : Row) → shape_at after row ≡ shape_at before row
  pub rooms : (row : Row) → room_at after row ≡ room_at before row
  pub node_count : node_count after ≡ node_count before

-- What is told agrees with an index again, and the totals are right; what no key tells stays, of the top and of nodes beside
-- the forest all that is told, and the totals of these. There are so many reads at most.
pub record Follows (cost : ℕ) (keys : Keys) (f : Branches) (before after : Nodes) : Type 0 where
  pub agrees : Agrees after keys f
  pub totals : Totals after f
  pub own : (row : Row) → own_at after row ≡ own_at before row
  pub top : told_at after Top ≡ told_at before Top
  pub beside : (id : NodeId) → times id.0 f ≡ 0 → told_at after (Below id) ≡ told_at before (Below id)
  pub totals_beside : (id : NodeId) → times id.0 f ≡ 0 → total_at after (Below id) ≡ total_at before (Below id)
  pub reads : reads after ≤ reads before + cost

-- as many as two climbs take
abbrev pub two_climbs : Branches → ℕ
two_climbs f = 2 + 2 * levels f

-- as many as it takes to judge each node that refers to a value, where it does
abbrev pub judging : Bool → List NodeId → Branches → ℕ
judging judges ids f = 2 + (if judges then length ids * (1 + levels f) else 0)
