-- The faults of a document by one walk over a row of schema nodes and the row that is stored under it: they are the
-- faults of the document.
use Rattle.std.specs.Prelude.{ℕ, ◌++◌, ◌==◌, List, [], ◌∷◌, map, length, Bool, if◌then◌else◌, nat_lt}
use Rattle.std.specs.List.{flat_map}
use Rattle.yspec.specs.Forest.{Forest, end, node}
use Rattle.yspec.specs.schema.Schema.{Schema, SchemaNode, Kind, container, leaf, leaf_list, list, choice, case, Absence, allowed, default_used, mandatory, key, Amount}
use Rattle.yspec.specs.document.Document.{Stored, Tree, Step, step_to, instances_in}
use Rattle.yspec.specs.document.FaultCode.{V2, V3, V4, V5, V6, V7}
use Rattle.yspec.specs.document.Fault.{Fault, plain_fault, fault_with, choice_name}
use Rattle.yspec.specs.document.Play.{cases, stored_cases, exceeds, is_among}
use Rattle.yspec.specs.document.Instances.{tuple}
use Rattle.yspec.specs.document.Faults.{Times, RowTimes, own_faults, under, at_positions, row_times}

-- the steps to a node in front of those that lead on from it
abbrev pub prefixed : List Step → Fault → Fault
prefixed above f = record f { steps = above ++ f.steps }

-- what a function says of each instance of a schema node in a row
abbrev pub each_instance : {A : Type 0} → ℕ → (Stored → Tree → A) → Tree → List A
each_instance number said end = []
each_instance number said (node s below after) = if s.schema_number == number
    then said s below ∷ each_instance number said after else each_instance number said after

-- ---- of nodes that aren't stored

abbrev pub absent_leaf_faults : ℕ → Absence → List Fault
absent_leaf_faults number allowed = []
absent_leaf_faults number (default_used v) = []
absent_leaf_faults number mandatory = plain_fault V3 (step_to number ∷ []) ∷ []
absent_leaf_faults number key = plain_fault V2 (step_to number ∷ []) ∷ []

abbrev pub wrong_amount : ℕ → Amount → ℕ → List Fault
wrong_amount number amount count = if nat_lt count amount.min_elements then plain_fault V6 (step_to number ∷ []) ∷ []
    else (if exceeds count amount.max_elements then plain_fault V7 (step_to number ∷ []) ∷ [] else [])

abbrev pub wrong_choice : SchemaNode → Bool → List ℕ → List Fault
wrong_choice n is_mandatory [] = if is_mandatory then fault_with (choice_name n.name) V4 [] ∷ [] else []
wrong_choice n is_mandatory (first ∷ []) = []
wrong_choice n is_mandatory (first ∷ second ∷ more) = fault_with (choice_name n.name) V5 [] ∷ []

-- ---- of a node

abbrev pub one_or : ℕ → List Fault → List (List Fault) → List Fault
one_or number absent [] = absent
one_or number absent (fs ∷ others) = flat_map (map (under (step_to number))) (fs ∷ others)

-- `each` are the faults of its instances, `implied` those in it where it isn't stored, `inside` those of its children in
-- this row
abbrev pub node_faults : List ℕ → SchemaNode → Kind → List ℕ → List (List Fault) → List Fault → List Fault → List Fault
node_faults chosen n (container presence) with_stored each implied inside =
    one_or n.number (if presence then [] else map (under (step_to n.number)) implied) each
node_faults chosen n (leaf type absence) with_stored each implied inside =
    one_or n.number (absent_leaf_faults n.number absence) each
node_faults chosen n (leaf_list type defaults amount) with_stored each implied inside =
    wrong_amount n.number amount (length each) ++ at_positions n.number 1 each
node_faults chosen n (list tuples amount) with_stored each implied inside =
    wrong_amount n.number amount (length each) ++ at_positions n.number 1 each
node_faults chosen n (choice default_case is_mandatory) with_stored each implied inside =
    wrong_choice n is_mandatory with_stored ++ inside
node_faults chosen n case with_stored each implied inside = if is_among chosen n.number then inside else []

-- their steps lead from the node above the row
unfoldable pub row_faults : Times → Schema → RowTimes → List ℕ → Forest SchemaNode → Tree → List Fault
row_faults times schema row chosen end t = []
row_faults times schema row chosen (node n below after) t = node_faults chosen n n.kind (stored_cases (instances_in t) below)
    (each_instance n.number (λ s b. own_faults times row n n.kind s.value (tuple schema s b)
    ++ row_faults times schema (row_times schema b) [] below b) t)
    (row_faults times schema (row_times schema end) [] below end)
    (row_faults times schema row (cases (instances_in t) n.kind below) below t)
    ++ row_faults times schema row chosen after t
