-- What a store holds of a row, as contracts see it: three groups of facts, and room for children.
use Rattle.std.specs.Prelude.{ℕ, Bool, List, [], Option, None, Some, option_map, slice_set}
use Rattle.yspec.specs.types.Types as types
use Rattle.yschema_model.specs.declared.node.SchemaId.{SchemaId}
use Rattle.ytype.specs.View.{raw_of}
use Rattle.ycheck.specs.declared.fault.FaultCode.{FaultCode}
use Rattle.ystore_rows.specs.Rows.{Child}
use Rattle.ystore_rows.specs.declared.row.Row.{Row}
use Rattle.ystore.specs.declared.record.Judged.{Judged}
use Rattle.ystore.specs.declared.record.Judged.TheVariants.{Right}
use Rattle.ystore.specs.declared.record.Label as rust
use Rattle.ystore.specs.declared.record.Told as rust_told
use Rattle.ystore.specs.declared.record.KeptLabel.{KeptLabel}
use Rattle.ystore.specs.declared.record.KeptLabel.TheVariants.{Absent, Bare, Valued}
use Rattle.ystore.specs.declared.record.Record.{Record}
use Rattle.ystore_rows.specs.Within.{within_of}

-- a node but for the row below it
pub record Label : Type 0 where
  pub schema : SchemaId
  pub value : Option types.Raw
  pub parent : Row

abbrev pub label_of : rust.Label → Label
label_of l = record { schema = l.schema; value = option_map raw_of l.value; parent = l.parent }

-- where it stands in the tree, and what stands below it
pub record Shape : Type 0 where
  pub label : Option Label
  pub children : List Child

-- the faults that are told at it
pub record Told : Type 0 where
  pub judged : Judged
  pub same : List Bool
  pub play : List (FaultCode × SchemaId)

pub record Held : Type 0 where
  pub shape : Shape
  pub told : Told
  pub total : ℕ
  pub room : ℕ

abbrev pub told_of : rust_told.Told → Told
told_of t = record { judged = t.judged; same = t.same.items; play = t.play.items }

-- a label as a record keeps it
abbrev pub kept_label : KeptLabel → Option Label
kept_label Absent = None
kept_label (Bare schema parent) = Some (record { schema = schema; value = None; parent = parent })
kept_label (Valued schema parent raw) = Some (record { schema = schema; value = Some (raw_of raw); parent = parent })

abbrev pub held_of : Record → Held
held_of r = record {
  shape = record { label = kept_label r.label; children = (within_of r.extent).children };
  told = record { judged = r.judged; same = (within_of r.extent).same; play = (within_of r.extent).play };
  total = r.total;
  room = (within_of r.extent).room;
}

-- what is held of the top of an empty document
abbrev pub nothing_held : Held
nothing_held = record {
  shape = record { label = None; children = [] };
  told = record { judged = Right; same = []; play = [] };
  total = 0;
  room = 0;
}

-- what is held of a node that is new
abbrev pub new_held : Label → Told → ℕ → ℕ → Held
new_held label told total room = record {
  shape = record { label = Some label; children = [] };
  told = told;
  total = total;
  room = room;
}

-- ---- changes

abbrev pub with_children : (List Child → List Child) → Held → Held
with_children change held = record held { shape = record held.shape { children = change held.shape.children } }

abbrev pub with_told : (Told → Told) → Held → Held
with_told change held = record held { told = change held.told }

abbrev pub with_total : (ℕ → ℕ) → Held → Held
with_total change held = record held { total = change held.total }

abbrev pub with_room : ℕ → Held → Held
with_room room held = record held { room = room }

abbrev pub with_play : List (FaultCode × SchemaId) → Told → Told
with_play play told = record told { play = play }

abbrev pub with_judged : Judged → Told → Told
with_judged judged told = record told { judged = judged }

abbrev pub with_same : ℕ → Bool → Told → Told
with_same number is_same told = record told { same = slice_set told.same number is_same }
