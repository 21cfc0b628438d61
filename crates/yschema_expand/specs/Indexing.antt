-- Nodes found by an index of those that lie from a number on.
use Rattle.std.specs.Prelude.{◌≡◌, ℕ, ◌+◌, ◌^◌, ◌&&◌, Bool, true, List, [], ◌∷◌, drop, nat_lt, slice_get, Option, Some, None, option_map, option_and_then, if◌then◌else◌}
use Rattle.yspec.specs.Forest.{first_of}
use Rattle.yspec.specs.text.Text.{Text}
use Rattle.yspec.specs.linking.Parts.{Part}
use Rattle.yspec.specs.linking.Prefixes.{NodeName}
use Rattle.yspec.specs.linking.Expansion.{is_step}
use Rattle.yspec.specs.linking.Planned.{same_number}
use Rattle.yspec.specs.linking.Source.{argument_in}
use Rattle.ybase_index.specs.Index.{found}
use Rattle.ybase_index.specs.declared.index.NodeIndex.{NodeIndex}
use Rattle.ybase_index.specs.declared.keys.Among.TheVariants.{Children}
use Rattle.ybase_preorder.specs.Layout.{Place}
use Rattle.ybase_preorder.specs.declared.slot.Slot.{Slot}
use Rattle.yschema_expand.specs.NodeView.{part_view}
use Rattle.yschema_expand.specs.declared.nodes.ExpandedNode.{ExpandedNode}
use Rattle.yschema_expand.specs.declared.indexing.TargetIndex.{TargetIndex}

-- the name of a node
abbrev pub row_name : Slot ExpandedNode → Text
row_name r = argument_in (part_view r.label).source

-- the part that lies in a place
abbrev pub part_in : List (Slot ExpandedNode) → ℕ → Option Part
part_in slots number = option_map (λ r. part_view r.label) (slice_get slots number)

-- the node below which the first of some places stands
abbrev pub parent_of : {L : Type 0} → List (Place L) → Option ℕ
parent_of [] = None
parent_of (p ∷ ps) = p.parent

-- whether a node, if there is one, lies before a number
abbrev pub is_before : Option ℕ → ℕ → Bool
is_before None first = true
is_before (Some number) first = nat_lt number first

-- ---- children by their names

-- the number of the first child of a name, among places counted from a number on
abbrev pub first_child : Option ℕ → NodeName → ℕ → List (Place Part) → Option ℕ
first_child above name number [] = None
first_child above name number (p ∷ ps) = first_of
    (if same_number above p.parent && is_step name p.label then Some number else None)
    (first_child above name (number + 1) ps)

-- which child of a name a node has, or the top, by their numbers
abbrev pub Lookup : Type 0
Lookup = Option ℕ → NodeName → Option ℕ

abbrev pub look_by : NodeIndex → Lookup
look_by index above name = option_and_then (λ m. found index Children above m name.name) name.module_number

-- a sum that is the number of a node
abbrev pub sum_in : ℕ → ℕ → Option ℕ
sum_in m n = if nat_lt (m + n) (2 ^ 32) then Some (m + n) else None

abbrev pub look_in : TargetIndex → Lookup
look_in x above name = option_and_then (sum_in x.first) (look_by x.nodes above name)

-- the node to which steps lead on from one
abbrev pub led_on : Lookup → ℕ → List NodeName → Option ℕ
led_on look number [] = Some number
led_on look number (step ∷ steps) = option_and_then (λ n. led_on look n steps) (look (Some number) step)

-- and to which they lead from a row below a node
abbrev pub led : Lookup → Option ℕ → List NodeName → Option ℕ
led look above [] = None
led look above (step ∷ steps) = option_and_then (λ n. led_on look n steps) (look above step)

-- An index is that of the places that lie from a number on, which stand below a node before them.
pub record Indexes (first : ℕ) (x : TargetIndex) (places : List (Place Part)) : Type 0 where
  pub first_is : x.first ≡ first
  pub before : is_before x.parent first ≡ true
  pub parent : x.parent ≡ parent_of (drop first places)
  pub look : (above : Option ℕ) (name : NodeName) → look_by x.nodes above name ≡ first_child above name 0 (drop first places)
