-- State data (RFC 7950, 4.2.3 and 7.21.1): a document without it, the faults that tell of it, and those of what is left.
use Rattle.std.specs.Prelude.{ℕ, ◌+◌, ◌==◌, ◌++◌, Bool, false, not, List, [], ◌∷◌, Option, Some, None, if◌then◌else◌}
use Rattle.std.specs.Option.{option_map_or}
use Rattle.yspec.specs.Forest.{end, node}
use Rattle.yspec.specs.schema.Schema.{Schema, node_at, is_many}
use Rattle.yspec.specs.schema.Configuration.{configuration_schema, seen_schema}
use Rattle.yspec.specs.document.Document.{Tree, Step, step_to, step_at}
use Rattle.yspec.specs.document.FaultCode.{V12}
use Rattle.yspec.specs.document.Fault.{Fault, plain_fault}
use Rattle.yspec.specs.document.Faults.{faults_of}

-- whether the schema node of a number is state
abbrev pub is_state : Schema → ℕ → Bool
is_state schema number = option_map_or (λ n. not n.config) (node_at schema number) false

-- a row without the stored nodes of state and all below them
abbrev pub configuration_tree : Schema → Tree → Tree
configuration_tree schema end = end
configuration_tree schema (node s below after) = if is_state schema s.schema_number then configuration_tree schema after
    else node s (configuration_tree schema below) (configuration_tree schema after)

-- ---- what is told of it

abbrev pub is_many_at : Schema → ℕ → Bool
is_many_at schema number = option_map_or (λ n. is_many n.kind) (node_at schema number) false

-- the step to a stored node behind the last step to its row: instances of one schema node stand beside each other
abbrev pub position_behind : Option Step → ℕ → ℕ
position_behind None number = 1
position_behind (Some last) number = if last.schema_number == number then option_map_or (λ p. p + 1) last.position 1 else 1

abbrev pub step_behind : Schema → Option Step → ℕ → Step
step_behind schema last number =
    if is_many_at schema number then step_at number (position_behind last number) else step_to number

-- V12, once for all instances that stand beside each other
abbrev pub state_told : List Step → Option Step → ℕ → List Fault
state_told place last number =
    if option_map_or (λ s. s.schema_number == number) last false then [] else plain_fault V12 (place ++ step_to number ∷ []) ∷ []

-- the state data of a row that no other state data holds, given the last step to its row
unfoldable pub state_faults_in : Schema → List Step → Option Step → Tree → List Fault
state_faults_in schema place last end = []
state_faults_in schema place last (node s below after) =
    let step = step_behind schema last s.schema_number in
    (if is_state schema s.schema_number then state_told place last s.schema_number
    else state_faults_in schema (place ++ step ∷ []) None below)
    ++ state_faults_in schema place (Some step) after

abbrev pub state_faults : Schema → Tree → List Fault
state_faults schema tree = state_faults_in schema [] None tree

-- ---- all of a document, or its configuration alone

abbrev pub seen_tree : Bool → Schema → Tree → Tree
seen_tree of_configuration schema tree = if of_configuration then configuration_tree schema tree else tree

-- the state data first, then what is wrong with the configuration
abbrev pub seen_faults : Bool → Schema → Tree → List Fault
seen_faults of_configuration schema tree = if of_configuration
    then state_faults schema tree ++ faults_of (configuration_schema schema) (configuration_tree schema tree) else faults_of schema tree

-- what is looked at of a document, and its faults
pub record Inspected : Type 0 where
  pub schema : Schema
  pub tree : Tree
  pub faults : List Fault

abbrev pub inspected : Bool → Schema → Tree → Inspected
inspected of_configuration schema tree = record {
  schema = seen_schema of_configuration schema;
  tree = seen_tree of_configuration schema tree;
  faults = seen_faults of_configuration schema tree;
}
