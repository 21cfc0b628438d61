-- What one walk over a row of schema nodes and the row that is stored under it tells. Siblings stand in the order of
-- their schema nodes' numbers, so that each node finds its instances at the front of what is left.
use Rattle.std.specs.Prelude.{ℕ, suc, ◌+◌, ◌++◌, Bool, false, List, [], ◌∷◌, map, length, option_and_then, Option, Some, None, get_or, nat_lt, if◌then◌else◌}
use Rattle.std.specs.Option.{option_map_or}
use Rattle.yspec.specs.Forest.{Forest, end, node, weigh_row}
use Rattle.yspec.specs.text.Text.{Text}
use Rattle.yspec.specs.types.Types.{Raw, Val, YangType, taken}
use Rattle.yspec.specs.types.Order.{same_value}
use Rattle.yspec.specs.schema.Schema.{Schema, SchemaNode, Kind, Tuples, LeafType, LeafPath, container, leaf, leaf_list, list, choice, case, is_data, is_many, has_value}
use Rattle.yspec.specs.document.Document.{Stored, Tree, step_to, instances_in}
use Rattle.yspec.specs.document.FaultCode.{V4, V5, V10}
use Rattle.yspec.specs.document.Fault.{Fault, fault_with, choice_name, plain_fault}
use Rattle.yspec.specs.document.Play.{stored_cases}
use Rattle.yspec.specs.document.Instances.{Tuple, is_value, is_tuple, paths_of, same_tuple, tuple_of_paths}
use Rattle.yspec.specs.schema.References.{reference_in}
use Rattle.yspec.specs.document.Faults as faults
use Rattle.yspec.specs.document.Faults.{Times, value_faults, tuple_info, tuple_code, under}
use Rattle.yspec.specs.document.RowFaults.{absent_leaf_faults, wrong_amount}
use Rattle.yinst_tree.specs.Walk.{mine, others}
use Rattle.yinst_tree.specs.declared.tree.Stored as tree
use Rattle.ycheck.specs.Cases.{chosen_from, how_many, is_chosen}
use Rattle.ycheck.specs.Repeated.{marks, values_of, tuples_of}
use Rattle.ycheck.specs.Targets.{holds}
use Rattle.ycheck.specs.declared.targets.Targets.{Targets}
use Rattle.ycheck.specs.declared.cases.StoredCases.{StoredCases}
use Rattle.ycheck.specs.declared.cases.StoredCases.TheVariants as count
use Rattle.ycheck.specs.declared.cases.Chosen.{Chosen}
use Rattle.ycheck.specs.declared.cases.Chosen.TheVariants as chosen

-- ---- values

-- one for each value that a target has
abbrev pub times_of : Targets → Times
times_of t number v = if holds t number v then 1 else 0

-- whether a value refers to an instance that must be there and isn't
abbrev pub lacks_instance : Times → LeafType → Val → Bool
lacks_instance times type v = option_map_or (faults.lacks_instance times) (reference_in type v) false

abbrev pub value_told : Times → Kind → Option Raw → List Fault
value_told times (leaf type absence) value = option_map_or (value_faults times type) value []
value_told times (leaf_list type defaults amount) value = option_map_or (value_faults times type) value []
value_told times _ value = []

-- ---- what more than one instance has

abbrev pub is_repeated : {A : Type 0} → (A → ℕ) → Option A → Bool
is_repeated times value = option_map_or (λ x. nat_lt 1 (times x)) value false

abbrev pub item_value : YangType → Stored → Option Val
item_value type s = option_and_then (taken type) s.value

abbrev pub has_item_twice : YangType → Tree → Stored → Bool
has_item_twice type found s =
    is_repeated (λ v. weigh_row (λ r below. if is_value v (item_value type r) then 1 else 0) found) (item_value type s)

abbrev pub entry_tuple : Schema → Tuples → ℕ → Tree → Option Tuple
entry_tuple schema tuples u below = tuple_of_paths schema below (paths_of tuples u)

abbrev pub has_tuple_twice : Schema → Tuples → ℕ → Tree → Tree → Bool
has_tuple_twice schema tuples u found below =
    is_repeated (λ vs. weigh_row (λ r b. if is_tuple vs (entry_tuple schema tuples u b) then 1 else 0) found) (entry_tuple schema tuples u below)

-- from one `unique` on
abbrev pub tuples_twice : Schema → Tuples → Tree → Tree → ℕ → List (List LeafPath) → List Bool
tuples_twice schema tuples found below u [] = []
tuples_twice schema tuples found below u (x ∷ xs) =
    has_tuple_twice schema tuples u found below ∷ tuples_twice schema tuples found below (suc u) xs

-- of an entry, for the key and each `unique`, whether another has its tuple; of an item that may stand but once, whether
-- another has its value
abbrev pub marks_of : Schema → Kind → Bool → Tree → Stored → Tree → List Bool
marks_of schema (list tuples amount) distinct found s below =
    has_tuple_twice schema tuples 0 found below ∷ tuples_twice schema tuples found below 1 tuples.uniques
marks_of schema (leaf_list type defaults amount) distinct found s below =
    if distinct then has_item_twice type.type found s ∷ [] else []
marks_of schema _ distinct found s below = []

-- V10 of an item; V8 and V9 of an entry
abbrev pub repetition : Bool → ℕ → Fault
repetition is_item which =
    if is_item then plain_fault V10 [] else fault_with (tuple_info which) (tuple_code which) []

abbrev pub marks_told : Bool → ℕ → List Bool → List Fault
marks_told is_item which [] = []
marks_told is_item which (m ∷ ms) =
    (if m then repetition is_item which ∷ [] else []) ++ marks_told is_item (which + 1) ms

-- ---- the same of all instances as they lie, a list for each question

abbrev pub tables_from : Schema → Tuples → List tree.Stored → ℕ → List (List LeafPath) → List (List Bool)
tables_from schema tuples found u [] = []
tables_from schema tuples found u (x ∷ xs) =
    marks same_tuple (tuples_of schema tuples u found) ∷ tables_from schema tuples found (u + 1) xs

abbrev pub entry_table : Schema → Tuples → List tree.Stored → List (List Bool)
entry_table schema tuples found =
    marks same_tuple (tuples_of schema tuples 0 found) ∷ tables_from schema tuples found 1 tuples.uniques

abbrev pub table_of : Schema → Kind → Bool → List tree.Stored → List (List Bool)
table_of schema (list tuples amount) distinct found = entry_table schema tuples found
table_of schema (leaf_list type defaults amount) distinct found =
    if distinct then marks same_value (values_of type.type found) ∷ [] else []
table_of schema _ distinct found = []

-- the answers for the instance at a place
abbrev pub marks_at : ℕ → List (List Bool) → List Bool
marks_at index table = map (λ answers. get_or answers index false) table

-- ---- the instances of a data node

-- V6 and V7
abbrev pub amount_told : ℕ → Kind → ℕ → List Fault
amount_told number (leaf_list type defaults amount) count = wrong_amount number amount count
amount_told number (list tuples amount) count = wrong_amount number amount count
amount_told number _ count = []

-- what is told where none is stored, given what is told in it then
abbrev pub absent_told : ℕ → Kind → List Fault → List Fault
absent_told number (container presence) implied = if presence then [] else map (under (step_to number)) implied
absent_told number (leaf type absence) implied = absent_leaf_faults number absence
absent_told number _ implied = []

abbrev pub position_at : Bool → ℕ → Option ℕ
position_at many position = if many then Some position else None

-- each below its step, with its position where there may be more than one
abbrev pub each_told : Bool → ℕ → ℕ → List (List Fault) → List Fault
each_told many number position [] = []
each_told many number position (fs ∷ others) =
    map (under (record { schema_number = number; position = position_at many position })) fs
    ++ each_told many number (position + 1) others

-- what a function says of each node of a row
abbrev pub each_of : {A : Type 0} → (Stored → Tree → A) → Tree → List A
each_of said end = []
each_of said (node s below after) = said s below ∷ each_of said after

-- what an instance tells, given what is told of a row below it
abbrev pub instance_told : Times → Schema → SchemaNode → Kind → (Tree → List Fault) → Tree → Stored → Tree → List Fault
instance_told times schema n kind inside found s below = value_told times kind s.value
    ++ (marks_told (has_value kind) 0 (marks_of schema kind n.distinct_items found s below) ++ inside below)

abbrev pub instances_told : Times → Schema → SchemaNode → Kind → (Tree → List Fault) → Tree → List Fault
instances_told times schema n kind inside found =
    each_told (is_many kind) n.number 1 (each_of (instance_told times schema n kind inside found) found)

abbrev pub present_or : Tree → List Fault → List Fault → List Fault
present_or end absent present = absent
present_or (node s below after) absent present = present

abbrev pub data_told : Times → Schema → SchemaNode → Kind → (Tree → List Fault) → Tree → List Fault
data_told times schema n kind inside found = amount_told n.number kind (length (each_of (λ s below. s) found))
    ++ present_or found (absent_told n.number kind (inside end)) (instances_told times schema n kind inside found)

-- ---- choices

-- V4 and V5
abbrev pub choice_told : Text → Bool → StoredCases → List Fault
choice_told name is_mandatory count.Zero =
    if is_mandatory then fault_with (choice_name name) V4 [] ∷ [] else []
choice_told name is_mandatory count.One = []
choice_told name is_mandatory count.Several = fault_with (choice_name name) V5 [] ∷ []

-- of a choice or case, given what is told of its row where some cases of that row are chosen
abbrev pub inside_told : SchemaNode → Kind → Chosen → Forest SchemaNode → (Chosen → Tree → List Fault) → Tree → List Fault
inside_told n (choice default_case is_mandatory) c below inside rest =
    choice_told n.name is_mandatory (how_many (stored_cases (instances_in rest) below))
    ++ inside (chosen_from default_case (how_many (stored_cases (instances_in rest) below))) rest
inside_told n case c below inside rest =
    if is_chosen c (instances_in rest) n.number below then inside chosen.NoCase rest else []
inside_told n _ c below inside rest = []

-- ---- rows

unfoldable pub walked : Times → Schema → Chosen → Forest SchemaNode → Tree → List Fault
walked times schema c end rest = []
walked times schema c (node n below after) rest = (if is_data n.kind
    then data_told times schema n n.kind (λ t. walked times schema chosen.NoCase below t) (mine n.number rest)
    else inside_told n n.kind c below (λ d t. walked times schema d below t) (others n.number rest))
    ++ walked times schema c after (others n.number rest)
