-- What the index of a schema finds.
use Rattle.std.specs.Prelude.{◌≡◌, ℕ, ◌==◌, ◌&&◌, Bool, true, List, [], ◌∷◌, Option, Some, None, option_and_then, map, string_bytes, if◌then◌else◌}
use Rattle.std.specs.Option.{option_eq}
use Rattle.yspec.specs.text.Text.{Text}
use Rattle.yspec.specs.schema.Schema as spec
use Rattle.yspec.specs.schema.Schema.{is_data, is_called, is_written, node_at}
use Rattle.ybase_index.specs.Names.{ascends, found_by, number_among, text_in}
use Rattle.ybase_index.specs.declared.keys.Among.TheVariants.{Children, DataNodes}
use Rattle.ybase_index.specs.declared.keys.IndexedNode.{IndexedNode}
use Rattle.yschema_model.specs.declared.children.Slot.{Slot}
use Rattle.yschema_model.specs.declared.index.Index.{Index}
use Rattle.yschema_model.specs.Layout.{Place, kind_view, laid, number_of}

-- the first of some places below a node, or at the top, whose label passes a test
abbrev pub first_below : Option ℕ → (spec.SchemaNode → Bool) → List Place → Option ℕ
first_below parent test [] = None
first_below parent test (p ∷ ps) =
    if option_eq (λ a b. a == b) parent p.parent && test p.label then Some p.label.number else first_below parent test ps

-- the names of the nodes, by number
abbrev pub names_in : List Slot → List Text
names_in slots = map (λ r. string_bytes r.node.name) slots

-- the number of a name: that of the first node that has it
abbrev pub number_among_names : Index → List Slot → Text → Option ℕ
number_among_names x slots = number_among (text_in (names_in slots)) x.names.items

abbrev pub names_ascend : Index → List Slot → Bool
names_ascend x slots = ascends (text_in (names_in slots)) x.names.items

-- a slot's node, with the data node above it
abbrev pub indexed : ℕ → Slot → Option ℕ → IndexedNode
indexed number r above = record {
  number = number;
  parent = number_of r.parent;
  scope = above;
  «module» = r.node.«module»;
  is_data = is_data (kind_view r.node.kind);
}

-- The index finds the nodes of slots by their names.
abbrev pub FindsNamed : Index → List Slot → Type 0
FindsNamed x slots = (names_ascend x slots ≡ true)
    × ((parent : Option ℕ) (m : ℕ) (name : Text) → found_by (number_among_names x slots) x.nodes Children parent m name
    ≡ first_below parent (is_called m name) (laid 0 slots))

-- a data node of a module and a name
abbrev pub is_data_called : ℕ → Text → spec.SchemaNode → Bool
is_data_called m name n = is_data n.kind && is_called m name n

-- It finds the data nodes of some places.
abbrev pub FindsWritten : Index → List Slot → List Place → Type 0
FindsWritten x slots ps = (above : Option ℕ) (m : ℕ) (name : Text) → found_by (number_among_names x slots) x.nodes DataNodes above m name
    ≡ first_below above (is_data_called m name) ps

-- a data node that a document writes so below a node, or at the top
abbrev pub is_stored_as : spec.Schema → Option ℕ → Text → spec.SchemaNode → Bool
is_stored_as schema parent name n = is_data n.kind && is_written schema parent name n

-- the way to a node, where there is one
abbrev pub way_above : spec.Schema → Option ℕ → List spec.SchemaNode
way_above schema None = []
way_above schema (Some number) = spec.way_to schema number

-- a node alone, where there is one
abbrev pub alone : Option spec.SchemaNode → List spec.SchemaNode
alone None = []
alone (Some n) = n ∷ []

-- the module of a choice or a case, which documents pass through; none of other nodes
abbrev pub module_passed : spec.Schema → Option ℕ → Option ℕ
module_passed schema None = None
module_passed schema (Some number) =
    option_and_then (λ n. if is_data n.kind then None else Some n.module_number) (node_at schema number)
