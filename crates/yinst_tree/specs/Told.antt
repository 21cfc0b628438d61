-- Refusals as the specification's.
use Rattle.std.specs.Prelude.{◌≡◌, ℕ, List, [], ◌++◌, Option, Some, None, option_and_then, option_map, Result, Ok, Err}
use Rattle.std.specs.Option.{option_map_or}
use Rattle.serde_json.specs.Data.{Data}
use Rattle.yspec.specs.Forest.{Forest}
use Rattle.yspec.specs.schema.Schema.{Schema, SchemaNode, JsonForm, any_value, node_at, children_of}
use Rattle.yspec.specs.document.Document.{Step}
use Rattle.yspec.specs.document.Reading.{Refusal, Visit, raw_of, refused_value, raw_by, refused_by, instance_visits, first_wrong, first_refusal, stored_node, stored_rows, members_of}
use Rattle.yinst_tree.specs.View.{Labelled, place_view}
use Rattle.yinst_tree.specs.declared.fault.DocCode.{DocCode}
use Rattle.yinst_tree.specs.declared.fault.DocCode.TheVariants.{J1, J2, J3, J4, J5, J6, J7}
use Rattle.yinst_tree.specs.declared.fault.DocFault.{DocFault}
use Rattle.yinst_tree.specs.declared.fault.DocFault.TheVariants.{Refused, Memory}

abbrev pub code_number : DocCode → ℕ
code_number J1 = 1
code_number J2 = 2
code_number J3 = 3
code_number J4 = 4
code_number J5 = 5
code_number J6 = 6
code_number J7 = 7

-- the number of the refusal of a value at a leaf, where it is refused
abbrev pub leaf_refusal : Data → Option ℕ
leaf_refusal d = option_map_or (λ _. None) (raw_of d) (Some (refused_value d))

-- of one of any form
abbrev pub refusal_by : JsonForm → Data → Option ℕ
refusal_by form d = option_map_or (λ _. None) (raw_by form d) (Some (refused_by form d))

abbrev pub whole_refusal : Data → Option ℕ
whole_refusal d = refusal_by any_value d

-- what is refused of one instance of the node of a number, where a node has it
abbrev pub refused_at : Schema → ℕ → List Step → Data → Option Refusal
refused_at s number place d =
    option_and_then (λ n. first_wrong (instance_visits s n (children_of s number) place d)) (node_at s number)

-- what stands at one instance of the node of a number when it holds this, where a node has the number
abbrev pub denoted_at : Schema → ℕ → Data → Option Labelled
denoted_at s number d = option_map (λ n. (stored_node n d, stored_rows s (Some n.module_number) (children_of s number) (members_of d))) (node_at s number)

-- the refusal that a fault tells; none of want of memory
abbrev pub told_by : DocFault → Option Refusal
told_by (Refused code place) = Some (record { code = code_number code; place = place_view place.items })
told_by Memory = None

-- A refusal is the one that is told. Where memory ran out nothing is said.
abbrev pub Tells : DocFault → Option Refusal → Type 0
Tells (Refused code place) told = told ≡ Some (record { code = code_number code; place = place_view place.items })
Tells Memory told = Unit {0}

-- nothing is refused, or what is told
abbrev pub Judges : {X : Type 0} → Result X DocFault → Option Refusal → Type 0
Judges (Ok x) told = told ≡ None
Judges (Err fault) told = Tells fault told

-- ---- visits one after another

-- the visits of the node of a number; none where no node has it
abbrev pub visits_at : Schema → ℕ → (SchemaNode → Forest SchemaNode → List Visit) → List Visit
visits_at s number visits = option_map_or (λ n. visits n (children_of s number)) (node_at s number) []

-- the first refusal, where there is room for so many right nodes, or for any number of them
abbrev pub told_within : Option ℕ → List Visit → Option Refusal
told_within None vs = first_wrong vs
told_within (Some room) vs = first_refusal room vs

-- Whatever follows some visits: nothing is refused of them, and of what follows the same is told with the room that is left;
-- or what is told is a refusal of them.
abbrev pub Walks : Option ℕ → List Visit → Result (Option ℕ) DocFault → Type 0
Walks room vs (Ok left) = (others : List Visit) → told_within room (vs ++ others) ≡ told_within left others
Walks room vs (Err fault) = (others : List Visit) → Tells fault (told_within room (vs ++ others))
