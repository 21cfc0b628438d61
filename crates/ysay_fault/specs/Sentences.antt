-- What is said of a fault of a document: a path, and what is there or is missing.
use Rattle.std.specs.Prelude.{ℕ, ◌++◌, List, [], codes, decimal, Option, Some, None, option_map, option_and_then, unwrap_or}
use Rattle.std.specs.Option.{option_map_or}
use Rattle.yspec.specs.Forest.{Forest, first_of}
use Rattle.yspec.specs.text.Text.{Text}
use Rattle.yspec.specs.types.Types.{Raw, taken}
use Rattle.yspec.specs.schema.References as references
use Rattle.yspec.specs.schema.Schema.{Schema, SchemaNode, Kind, LeafType, list, leaf_list, Amount, node_at, children_of, written_name}
use Rattle.yspec.specs.document.Document.{Tree, Step, instances_in}
use Rattle.yspec.specs.document.FaultCode.{FaultCode, V1, V2, V3, V4, V5, V6, V7, V8, V9, V10, V11, V12}
use Rattle.yspec.specs.document.Fault.{Fault, Info, choice_name, unique_number}
use Rattle.yspec.specs.document.Path.{path_text, module_after}
use Rattle.ysay_text.specs.Control.{visible}
use Rattle.ysay_place.specs.Places.{instance_to, row_to, row_at, last_step, steps_above}
use Rattle.ysay_value.specs.Values.{value_text}
use Rattle.ysay_place.specs.KeyedPath.{keyed_path}
use Rattle.ysay_fault.specs.Fellows.{fellow_entry, fellow_item, fellow_text}
use Rattle.ysay_fault.specs.Cases.{stored_case_names}
use Rattle.ysay_value.specs.NearWords.{near_words, nearest_target}
use Rattle.ysay_place.specs.Targets.{target_path}
use Rattle.ysay_value.specs.IdentityWords.{hint_words}
use Rattle.ysay_value.specs.TakenWords.{taken_words}
use Rattle.ysay_value.specs.Messages.{type_at, message_at, message_words}
use Rattle.ysay_value.specs.TupleWords.{keys_at, keys_said, unique_at, leafs_said}

-- ---- what the schema says

-- the name of the type of a leaf or leaf-list as its module writes it
abbrev pub type_name : Schema → ℕ → Text
type_name schema number = option_map_or (λ t. t.name) (type_at schema number) []

-- what that type takes
abbrev pub taken_at : Schema → ℕ → Text
taken_at schema number = option_map_or (λ t. taken_words t.type) (type_at schema number) []

-- what is said behind that of a value which it doesn't take
abbrev pub hint_at : Schema → ℕ → Option Raw → Text
hint_at schema number value = option_map_or (λ t. hint_words t.type value) (type_at schema number) (codes ".")

abbrev pub amount_in : Kind → Option Amount
amount_in (list tuples amount) = Some amount
amount_in (leaf_list type defaults amount) = Some amount
amount_in _ = None

abbrev pub amount_at : Schema → ℕ → Option Amount
amount_at schema number = option_and_then (λ n. amount_in n.kind) (node_at schema number)

-- the schema node to which that member of a union refers that takes a value
abbrev pub member_target : LeafType → Option Raw → Option ℕ
member_target type value =
    option_map references.number_of (option_and_then (references.member_target type.targets) (option_and_then (taken type.type) value))

-- a leafref's target, or that
abbrev pub target_by : LeafType → Option Raw → Option ℕ
target_by type value = first_of type.target (member_target type value)

abbrev pub target_at : Schema → ℕ → Option Raw → Option ℕ
target_at schema number value = option_and_then (λ t. target_by t value) (type_at schema number)

-- ---- where nodes may stand

-- the nodes that may stand at the place to which steps lead
abbrev pub children_at : Schema → List Step → Forest SchemaNode
children_at schema steps =
    option_map_or (λ step. children_of schema step.schema_number) (last_step steps) schema.nodes

-- ---- what is said of the last step to a place, from the row in which it leads to a node

-- the value of the leaf or item to which it leads
abbrev pub value_to : Tree → Step → Option Raw
value_to row step = option_and_then (λ found. found.0.value) (instance_to row step)

-- the schema node to which that refers
abbrev pub target_to : Schema → Tree → Step → Option ℕ
target_to schema row step = target_at schema step.schema_number (value_to row step)

-- the message of the module for that value
abbrev pub message_to : Schema → Tree → Step → Option Text
message_to schema row step = message_at schema step.schema_number (value_to row step)

-- what its type takes
abbrev pub not_taken : Schema → Tree → Step → Text
not_taken schema row step = value_text (value_to row step)
    ++ (codes " isn't a value of " ++ (type_name schema step.schema_number
    ++ (codes ": it takes " ++ (taken_at schema step.schema_number ++ hint_at schema step.schema_number (value_to row step)))))

-- V1
abbrev pub wrong_value : Schema → Tree → Step → Text
wrong_value schema row step = not_taken schema row step ++ message_words (message_to schema row step)

-- the name of the node as it is written below a place
abbrev pub name_below : Schema → List Step → ℕ → Text
name_below schema above number = option_map_or
    (λ n. written_name schema (option_and_then (module_after schema) (last_step above)) n) (node_at schema number) []

-- V2
abbrev pub missing_key : Schema → List Step → ℕ → Text
missing_key schema above number = codes "its key " ++ (name_below schema above number ++ codes " is missing.")

-- V3
abbrev pub missing_leaf : Schema → List Step → ℕ → Text
missing_leaf schema above number = name_below schema above number ++ codes " is missing."

-- V6
abbrev pub too_few : Schema → Tree → ℕ → Text
too_few schema row number = codes "it has " ++ (decimal (instances_in row number) ++ (codes ", and must have at least "
    ++ (decimal (option_map_or (λ a. a.min_elements) (amount_at schema number) 0) ++ codes ".")))

-- V7
abbrev pub too_many : Schema → Tree → ℕ → Text
too_many schema row number = codes "it has " ++ (decimal (instances_in row number) ++ (codes ", and may have at most "
    ++ (decimal (unwrap_or (option_and_then (λ a. a.max_elements) (amount_at schema number)) 0) ++ codes ".")))

-- V8
abbrev pub same_key : Schema → Tree → List Step → Step → Text
same_key schema row above step = keys_said schema (row_to row step) (keys_at schema step.schema_number)
    ++ (fellow_text schema above step.schema_number (fellow_entry schema 0 row step) ++ codes ".")

-- V9
abbrev pub same_unique : Schema → Tree → List Step → Step → ℕ → Text
same_unique schema row above step u = leafs_said schema (row_to row step) (unique_at schema step.schema_number u)
    ++ (fellow_text schema above step.schema_number (fellow_entry schema u row step) ++ codes ".")

-- V10
abbrev pub same_item : Schema → Tree → List Step → Step → Text
same_item schema row above step = codes "its value " ++ (value_text (value_to row step)
    ++ (codes " is that of " ++ (fellow_text schema above step.schema_number (fellow_item schema row step) ++ codes ".")))

-- V11
abbrev pub no_target : Schema → Tree → Tree → Step → Text
no_target schema tree row step =
    let target = target_to schema row step in
    let value = value_to row step in
    codes "no instance of " ++ (target_path schema target ++ (codes " is " ++ (value_text value
    ++ near_words (nearest_target schema tree target value))))

-- V12
abbrev pub state_stored : Schema → List Step → ℕ → Text
state_stored schema above number = name_below schema above number ++ codes " is config false, so no configuration holds it."

-- ---- what is said of a choice below a place

-- V4
abbrev pub no_case : Text → Text
no_case name = codes "no case of the choice " ++ (name ++ codes " is there.")

-- V5
abbrev pub several_cases : Schema → Tree → List Step → Text → Text
several_cases schema tree steps name = codes "the choice " ++ (name ++ (codes " has nodes of more than one case: "
    ++ (stored_case_names (instances_in (row_at tree steps)) name (children_at schema steps) ++ codes ".")))

-- ---- all

abbrev pub unique_in : Info → ℕ
unique_in (unique_number n) = n
unique_in _ = 0

abbrev pub choice_in : Info → Text
choice_in (choice_name name) = name
choice_in _ = []

-- what is said of a step below some others, from the row of a document in which it leads to a node
abbrev pub sentence_at : Schema → Tree → Tree → List Step → Info → FaultCode → Step → Text
sentence_at schema tree row above info V1 step = wrong_value schema row step
sentence_at schema tree row above info V2 step = missing_key schema above step.schema_number
sentence_at schema tree row above info V3 step = missing_leaf schema above step.schema_number
sentence_at schema tree row above info V4 step = []
sentence_at schema tree row above info V5 step = []
sentence_at schema tree row above info V6 step = too_few schema row step.schema_number
sentence_at schema tree row above info V7 step = too_many schema row step.schema_number
sentence_at schema tree row above info V8 step = same_key schema row above step
sentence_at schema tree row above info V9 step = same_unique schema row above step (unique_in info)
sentence_at schema tree row above info V10 step = same_item schema row above step
sentence_at schema tree row above info V11 step = no_target schema tree row step
sentence_at schema tree row above info V12 step = state_stored schema above step.schema_number

-- of the last step to a place
abbrev pub sentence_to : Schema → Tree → List Step → Info → FaultCode → Text
sentence_to schema tree steps info code = option_map_or
    (sentence_at schema tree (row_at tree (steps_above steps)) (steps_above steps) info code) (last_step steps) []

abbrev pub plain_sentence : Schema → Tree → List Step → Info → FaultCode → Text
plain_sentence schema tree steps info V4 = no_case (choice_in info)
plain_sentence schema tree steps info V5 = several_cases schema tree steps (choice_in info)
plain_sentence schema tree steps info code = sentence_to schema tree steps info code

-- a terminal obeys nothing of it
abbrev pub sentence : Schema → Tree → List Step → Info → FaultCode → Text
sentence schema tree steps info code = visible (plain_sentence schema tree steps info code)

-- ---- the message that a fault carries of its module (RFC 7950, 7.5.4.1)

abbrev pub own_message : Schema → Tree → List Step → FaultCode → Option Text
own_message schema tree steps V1 =
    option_and_then (message_to schema (row_at tree (steps_above steps))) (last_step steps)
own_message schema tree steps _ = None

-- ---- places

-- Where it is told, as an edit's path names it: an entry that isn't the only one of its keys, by positions.
abbrev pub fault_path : Schema → Tree → FaultCode → List Step → Text
fault_path schema tree V8 steps = path_text schema steps
fault_path schema tree _ steps = keyed_path schema tree steps

-- ---- lines

-- What is missing is told at the node around it; an entry or item that isn't the only one of its keys or of its value, by
-- its position.
abbrev pub subject : Schema → Tree → FaultCode → List Step → Text
subject schema tree V2 steps = keyed_path schema tree (steps_above steps)
subject schema tree V3 steps = keyed_path schema tree (steps_above steps)
subject schema tree V8 steps = path_text schema steps
subject schema tree V10 steps = path_text schema steps
subject schema tree _ steps = keyed_path schema tree steps

-- an indented line
abbrev pub explained_fault : Schema → Tree → Fault → Text
explained_fault schema tree f =
    codes "  " ++ (subject schema tree f.code f.steps ++ (codes ": " ++ (sentence schema tree f.steps f.info f.code ++ codes "\n")))
