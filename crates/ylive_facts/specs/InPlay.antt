-- What is told of what isn't stored in a row, and the defaults in use there, as code gathers both in one walk.
use Rattle.std.specs.Prelude.{◌≡◌, ℕ, ◌++◌, List, [], map, if◌then◌else◌}
use Rattle.yspec.specs.Forest.{Forest}
use Rattle.yspec.specs.schema.Schema.{Schema, SchemaNode, Kind, container, leaf, leaf_list, list}
use Rattle.ycheck.specs.View.{code_view}
use Rattle.ycheck.specs.declared.fault.FaultCode.{FaultCode}
use Rattle.yschema_model.specs.declared.node.SchemaId.{SchemaId}
use Rattle.yspec_play.specs.Absences.{Absent, Default, absent_leaf_told, amount_told, absences_in, absent_leaf_default, defaults_in}
pub use Rattle.yspec_play.specs.Absences.{told_at, used_at}
use Rattle.ylive_facts.specs.Given.{given_view, referred}
use Rattle.ylive_facts.specs.declared.play.InPlay.{InPlay}

abbrev pub absence_views : List (FaultCode × SchemaId) → List Absent
absence_views = map (λ a. (code_view a.0, a.1.0))

-- these come behind what was found
pub record Gains (old new : InPlay) (told : List Absent) (used : List Default) : Type 0 where
  pub absences : absence_views new.absences.items ≡ absence_views old.absences.items ++ told
  pub defaults : given_view new.defaults.items ≡ given_view old.defaults.items ++ used

-- what is in play of a row is found besides, by how many nodes of each schema node are stored and which cases are chosen
abbrev pub FindsRow : Schema → (ℕ → ℕ) → List ℕ → Forest SchemaNode → InPlay → InPlay → Type 0
FindsRow schema stored chosen f old new =
    Gains old new (absences_in stored chosen f) (referred schema (defaults_in stored chosen f))

-- what is in play of a node of a row
abbrev pub FindsNode : Schema → (ℕ → ℕ) → List ℕ → SchemaNode → Forest SchemaNode → InPlay → InPlay → Type 0
FindsNode schema stored chosen n below old new =
    Gains old new (told_at stored chosen n below) (referred schema (used_at stored chosen n below))

-- ---- data nodes

-- V6 and V7, of a kind that may be stored more than once
abbrev pub wrong_amount : ℕ → Kind → ℕ → List Absent
wrong_amount number (leaf_list type defaults amount) count = amount_told number amount count
wrong_amount number (list tuples amount) count = amount_told number amount count
wrong_amount number _ count = []

-- of a data node that isn't stored; `inside` is what is in play in it then
abbrev pub absent_told : ℕ → Kind → List Absent → List Absent
absent_told number (container presence) inside = if presence then [] else inside
absent_told number (leaf type absence) inside = absent_leaf_told number absence
absent_told number _ inside = []

abbrev pub absent_used : ℕ → Kind → List Default → List Default
absent_used number (container presence) inside = if presence then [] else inside
absent_used number (leaf type absence) inside = absent_leaf_default number absence
absent_used number (leaf_list type defaults amount) inside = map (λ v. (number, v)) defaults
absent_used number _ inside = []

-- nothing is stored in it
abbrev pub FindsAbsent : Schema → SchemaNode → Forest SchemaNode → InPlay → InPlay → Type 0
FindsAbsent schema n below old new =
    Gains old new (absent_told n.number n.kind (absences_in (λ number. 0) [] below))
    (referred schema (absent_used n.number n.kind (defaults_in (λ number. 0) [] below)))
