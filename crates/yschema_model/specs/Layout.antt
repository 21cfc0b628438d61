-- How the nodes of a schema lie in slots: each before those below it, with how many these are.
use Rattle.std.specs.Prelude.{ℕ, zero, suc, ◌+◌, Bool, true, ◌&&◌, nat_le, length, take, drop, map, replicate, List, [], ◌∷◌, ◌++◌, Option, Some, None, option_map, option_and_then, slice_get, if◌then◌else◌, string_bytes, ◌≡◌}
use Rattle.std.specs.List.{flat_map, range_with_len}
use Rattle.yspec.specs.Forest.{Forest, end, node, size}
use Rattle.yspec.specs.text.Text.{Text}
use Rattle.yspec.specs.schema.Schema as spec
use Rattle.yspec.specs.schema.References as references
use Rattle.yspec.specs.linking.TypeStatements.{built_in_name}
use Rattle.ybase_words.specs.BuiltInView.{built_in_view}
pub use Rattle.ybase_words.specs.WordView.{status_view}
use Rattle.yschema_model.specs.declared.node.SchemaId.{SchemaId}
use Rattle.yschema_model.specs.declared.node.SchemaNode.{SchemaNode}
use Rattle.yschema_model.specs.declared.node.Kind.{Kind}
use Rattle.yschema_model.specs.declared.node.Kind.TheVariants as kinds
use Rattle.yschema_model.specs.declared.node.TypeName.{TypeName}
use Rattle.yschema_model.specs.declared.node.TypeName.TheVariants as type_names
use Rattle.yschema_model.specs.declared.node.MemberTarget.{MemberTarget}
use Rattle.yschema_model.specs.declared.node.MemberTargets.{MemberTargets}
use Rattle.yschema_model.specs.declared.node.MemberTargets.TheVariants as targets
use Rattle.yschema_model.specs.declared.node.JsonForm.{JsonForm}
use Rattle.yschema_model.specs.declared.node.JsonForm.TheVariants as forms
use Rattle.yschema_model.specs.declared.node.LeafType.{LeafType}
use Rattle.yschema_model.specs.declared.node.Reference.{Reference}
use Rattle.yschema_model.specs.declared.node.Absence.{Absence}
use Rattle.yschema_model.specs.declared.node.Absence.TheVariants as absences
use Rattle.yschema_model.specs.declared.node.Amount.{Amount}
use Rattle.yschema_model.specs.declared.node.Tuples.{Tuples}
use Rattle.yschema_model.specs.declared.children.Slot.{Slot}
use Rattle.yschema_model.specs.declared.schema.Augment.{Augment}
use Rattle.yschema_model.specs.declared.schema.SchemaModule.{SchemaModule}

abbrev pub number_of : Option SchemaId → Option ℕ
number_of = option_map (λ id. id.0)

-- the numbers of some nodes
abbrev pub numbers_of : List SchemaId → List ℕ
numbers_of = map (λ id. id.0)

-- the name of a type as it is written
abbrev pub type_name_view : TypeName → Text
type_name_view (type_names.BuiltIn b) = built_in_name (built_in_view b)
type_name_view (type_names.Derived name) = string_bytes name

abbrev pub member_target_view : MemberTarget → spec.MemberTarget
member_target_view m = record { target = m.target.0; member = m.member; is_required = m.is_required }

-- what each of some members refers to that stand one behind the other
abbrev pub each_target : MemberTargets → List (Option spec.MemberTarget)
each_target (targets.Own count) = replicate count None
each_target (targets.One target is_required) =
    Some (record { target = target.0; member = None; is_required = is_required }) ∷ []
each_target (targets.All target count is_required) =
    map (λ i. Some (record { target = target.0; member = Some i; is_required = is_required })) (range_with_len 0 count)

abbrev pub targets_view : List MemberTargets → List (Option spec.MemberTarget)
targets_view = flat_map each_target

abbrev pub form_view : JsonForm → spec.JsonForm
form_view forms.ByType = spec.by_type
form_view forms.AnyValue = spec.any_value
form_view forms.AnyObject = spec.any_object

abbrev pub leaf_type_view : LeafType → spec.LeafType
leaf_type_view t = record {
  name = type_name_view t.name;
  type = t.value_type;
  target = number_of t.target;
  targets = targets_view t.targets.items;
  form = form_view t.form;
}

abbrev pub reference_view : Reference → references.Reference
reference_view r = record { target = r.target.0; value = r.value; is_required = r.is_required }

abbrev pub absence_view : Absence → spec.Absence
absence_view absences.Allowed = spec.allowed
absence_view (absences.DefaultUsed v) = spec.default_used v
absence_view absences.Mandatory = spec.mandatory
absence_view absences.Key = spec.key

abbrev pub amount_view : Amount → spec.Amount
amount_view a = record { min_elements = a.min_elements; max_elements = a.max_elements }

abbrev pub tuples_view : Tuples → spec.Tuples
tuples_view t = record {
  keys = numbers_of t.keys.items;
  uniques = map (λ unique. map (λ path. numbers_of path.items) unique.items) t.uniques.items;
}

abbrev pub kind_view : Kind → spec.Kind
kind_view (kinds.Container presence) = spec.container presence
kind_view (kinds.Leaf leaf_type absence) = spec.leaf (leaf_type_view leaf_type) (absence_view absence)
kind_view (kinds.LeafList leaf_type defaults amount) =
    spec.leaf_list (leaf_type_view leaf_type) defaults.items (amount_view amount)
kind_view (kinds.List tuples amount) = spec.list (tuples_view tuples) (amount_view amount)
kind_view (kinds.Choice default_case mandatory) = spec.choice (number_of default_case) mandatory
kind_view kinds.Case = spec.case

-- a node, which has the number of its place in preorder
abbrev pub node_view : ℕ → SchemaNode → spec.SchemaNode
node_view number n = record {
  number = number;
  module_number = n.«module»;
  name = string_bytes n.name;
  config = n.config;
  distinct_items = n.distinct_items;
  status = status_view n.status;
  kind = kind_view n.kind;
}

-- a node, the number of the one above it, and how many stand below it
pub record Place : Type 0 where
  pub parent : Option ℕ
  pub label : spec.SchemaNode
  pub below : ℕ

-- the places of a row below a node
abbrev pub places : Option ℕ → Forest spec.SchemaNode → List Place
places parent end = []
places parent (node l below after) =
    record { parent = parent; label = l; below = size below } ∷ (places (Some l.number) below ++ places parent after)

abbrev pub place_of : ℕ → Slot → Place
place_of number r =
    record { parent = number_of r.parent; label = node_view number r.node; below = r.below }

-- ---- the data nodes above

-- the data node that a node is or that stands above it, given that above it; choices and cases are none
abbrev pub data_at : Option ℕ → spec.SchemaNode → Option ℕ
data_at above n = if spec.is_data n.kind then Some n.number else above

-- the places of a row below a data node, or at the top, each with the data node above it as its parent
abbrev pub data_places : Option ℕ → Forest spec.SchemaNode → List Place
data_places above end = []
data_places above (node l below after) =
    record { parent = above; label = l; below = size below } ∷ (data_places (data_at above l) below ++ data_places above after)

-- The data node above a node, given its parent and, by number, the data node that each of those before it is or that
-- stands above it.
abbrev pub data_above : List (Option ℕ) → Option ℕ → Option ℕ
data_above nearest None = None
data_above nearest (Some parent) = option_and_then (λ above. above) (slice_get nearest parent)

-- ---- slots

abbrev pub data_place_of : Option ℕ → ℕ → Slot → Place
data_place_of above number r = record { parent = above; label = node_view number r.node; below = r.below }

-- what lies in slots, the first of which has that number
abbrev pub laid : ℕ → List Slot → List Place
laid number [] = []
laid number (r ∷ slots) = place_of number r ∷ laid (number + 1) slots

-- whether the slots below each one lie within those of the one above it; there are at most so many slots
abbrev pub fits_within : ℕ → List Slot → Bool
fits_within zero slots = true
fits_within (suc n) [] = true
fits_within (suc n) (r ∷ slots) =
    nat_le r.below (length slots) && (fits_within n (take r.below slots) && fits_within n (drop r.below slots))

-- The forest whose nodes lie there in preorder, each before those below it. The first has a number, and the others
-- count on from it. There are at most so many slots.
unfoldable pub forest_within : ℕ → ℕ → List Slot → Forest spec.SchemaNode
forest_within zero number slots = end
forest_within (suc n) number [] = end
forest_within (suc n) number (r ∷ slots) = node (node_view number r.node)
    (forest_within n (number + 1) (take r.below slots)) (forest_within n (number + 1 + length (take r.below slots)) (drop r.below slots))

abbrev pub forest_of : ℕ → List Slot → Forest spec.SchemaNode
forest_of number slots = forest_within (length slots) number slots

abbrev pub augment_view : Augment → spec.Augment
augment_view a = record { target = a.target.0; nodes = numbers_of a.nodes.items }

abbrev pub module_view : SchemaModule → spec.SchemaModule
module_view m = record {
  name = string_bytes m.name;
  prefix = string_bytes m.prefix;
  augments = map augment_view m.augments.items;
}

-- the schema of some modules whose nodes lie in slots
abbrev pub schema_view : List SchemaModule → List Slot → spec.Schema
schema_view modules slots = record { modules = map module_view modules; nodes = forest_of 0 slots }

-- the parent of each slot is the node that it stands below
abbrev pub IsLaidOut : List Slot → Type 0
IsLaidOut slots = laid 0 slots ≡ places None (forest_of 0 slots)
