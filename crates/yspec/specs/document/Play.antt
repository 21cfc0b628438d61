-- What is in play below a stored node or at the top: a function of its schema children and of how many instances of
-- each are stored (RFC 7950, 7.5.1, 7.6.1, 7.6.5, 7.7.2, 7.7.5 and 7.9).
use Rattle.std.specs.Prelude.{ℕ, ◌+◌, ◌++◌, ◌==◌, Bool, false, List, [], ◌∷◌, Option, Some, None, option_to_list, if◌then◌else◌, nat_lt}
use Rattle.std.specs.List.{list_any}
use Rattle.yspec.specs.Forest.{Forest, end, node}
use Rattle.yspec.specs.types.Types.{Val}
use Rattle.yspec.specs.schema.Schema.{SchemaNode, Kind, container, leaf, leaf_list, list, choice, case, Absence, allowed, default_used, mandatory, key, Amount, is_data}
use Rattle.yspec.specs.document.Document.{Step, step_to}
use Rattle.yspec.specs.document.FaultCode.{V2, V3, V4, V5, V6, V7}
use Rattle.yspec.specs.document.Fault.{Fault, plain_fault, fault_with, choice_name}

-- Steps of faults lead down from that node, through containers that are implied.
pub data Item : Type 0 where
  -- tell this fault
  tell : Fault → Item
  -- these defaults of the schema node of this number are in use
  in_use : ℕ → List Val → Item
  -- the stored instance of the schema node of this number
  visit : ℕ → Item
  -- its stored instances, each with its position
  visit_each : ℕ → Item

-- ---- choices

-- how many data nodes are stored of these children, choices and cases passed through
abbrev pub stored_among : (ℕ → ℕ) → Forest SchemaNode → ℕ
stored_among stored end = 0
stored_among stored (node n below after) =
    (if is_data n.kind then stored n.number else stored_among stored below) + stored_among stored after

-- the cases of a choice that have a stored data node
abbrev pub stored_cases : (ℕ → ℕ) → Forest SchemaNode → List ℕ
stored_cases stored end = []
stored_cases stored (node n below after) =
    (if nat_lt 0 (stored_among stored below) then n.number ∷ [] else []) ++ stored_cases stored after

abbrev pub or_default : Option ℕ → List ℕ → List ℕ
or_default default_case [] = option_to_list default_case
or_default default_case (n ∷ ns) = n ∷ ns

-- the chosen cases: those that have a stored data node; with none, the default case if there is one
abbrev pub cases : (ℕ → ℕ) → Kind → Forest SchemaNode → List ℕ
cases stored (choice default_case is_mandatory) below = or_default default_case (stored_cases stored below)
cases stored _ below = []

-- V4 and V5
abbrev pub choice_faults : List Step → SchemaNode → Bool → List ℕ → List Item
choice_faults above n is_mandatory [] =
    if is_mandatory then tell (fault_with (choice_name n.name) V4 above) ∷ [] else []
choice_faults above n is_mandatory (first ∷ []) = []
choice_faults above n is_mandatory (first ∷ second ∷ more) = tell (fault_with (choice_name n.name) V5 above) ∷ []

-- ---- nodes that aren't stored

-- V2 and V3, and defaults
abbrev pub absent_leaf : ℕ → List Step → Absence → List Item
absent_leaf number steps allowed = []
absent_leaf number steps (default_used v) = in_use number (v ∷ []) ∷ []
absent_leaf number steps mandatory = tell (plain_fault V3 steps) ∷ []
absent_leaf number steps key = tell (plain_fault V2 steps) ∷ []

abbrev pub absent_items : ℕ → List Val → List Item
absent_items number [] = []
absent_items number (v ∷ vs) = in_use number (v ∷ vs) ∷ []

abbrev pub exceeds : ℕ → Option ℕ → Bool
exceeds count None = false
exceeds count (Some most) = nat_lt most count

-- V6, else V7
abbrev pub amount_faults : List Step → Amount → ℕ → List Item
amount_faults steps amount count = if nat_lt count amount.min_elements then tell (plain_fault V6 steps) ∷ []
    else (if exceeds count amount.max_elements then tell (plain_fault V7 steps) ∷ [] else [])

-- ---- all

abbrev pub is_among : List ℕ → ℕ → Bool
is_among numbers number = list_any (λ m. m == number) numbers

-- what is in play of one node; `inside` is what is in play of its children in this row, or in a container that is implied
abbrev pub node_items : (ℕ → ℕ) → List ℕ → List Step → SchemaNode → Kind → Forest SchemaNode → List Item → List Item
node_items stored chosen above n (container presence) below inside =
    if nat_lt 0 (stored n.number) then visit n.number ∷ [] else (if presence then [] else inside)
node_items stored chosen above n (leaf type absence) below inside =
    if nat_lt 0 (stored n.number) then visit n.number ∷ [] else absent_leaf n.number (above ++ step_to n.number ∷ []) absence
node_items stored chosen above n (leaf_list type defaults amount) below inside =
    amount_faults (above ++ step_to n.number ∷ []) amount (stored n.number)
    ++ (if nat_lt 0 (stored n.number) then visit_each n.number ∷ [] else absent_items n.number defaults)
node_items stored chosen above n (list tuples amount) below inside =
    amount_faults (above ++ step_to n.number ∷ []) amount (stored n.number)
    ++ (if nat_lt 0 (stored n.number) then visit_each n.number ∷ [] else [])
node_items stored chosen above n (choice default_case is_mandatory) below inside =
    choice_faults above n is_mandatory (stored_cases stored below) ++ inside
node_items stored chosen above n case below inside = if is_among chosen n.number then inside else []

-- nothing is stored in a container that is implied
abbrev pub stored_inside : Kind → (ℕ → ℕ) → ℕ → ℕ
stored_inside (container presence) stored number = 0
stored_inside _ stored number = stored number

abbrev pub steps_inside : Kind → List Step → ℕ → List Step
steps_inside kind above number = if is_data kind then above ++ step_to number ∷ [] else above

-- in order of definition; `stored` counts the stored instances of a schema node, and of cases the chosen ones are in play
unfoldable pub items_in_play : (ℕ → ℕ) → List ℕ → List Step → Forest SchemaNode → List Item
items_in_play stored chosen above end = []
items_in_play stored chosen above (node n below after) = node_items stored chosen above n n.kind below
    (items_in_play (stored_inside n.kind stored) (cases stored n.kind below) (steps_inside n.kind above n.number) below)
    ++ items_in_play stored chosen above after

abbrev pub in_play : (ℕ → ℕ) → Forest SchemaNode → List Item
in_play stored children = items_in_play stored [] [] children
