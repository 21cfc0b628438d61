-- Documents: the tree of what is stored (RFC 7950, 4.2.2; RFC 7951, 4 and 5).
use Rattle.std.specs.Prelude.{ℕ, ◌==◌, ◌++◌, List, [], ◌∷◌, count_by, Option, Some, None, if◌then◌else◌}
use Rattle.yspec.specs.Forest.{Forest, end, node, row}
use Rattle.yspec.specs.types.Types.{Raw}
use Rattle.yspec.specs.schema.Schema.{SchemaNode}

-- a stored node, be it a container, a leaf, an entry or an item: the number of its schema node, and at a leaf or item
-- what the document has there
pub record Stored : Type 0 where
  pub schema_number : ℕ
  pub value : Option Raw

-- Siblings stand in the order of their schema nodes' numbers, entries and items of one list in theirs.
abbrev pub Tree : Type 0
Tree = Forest Stored

-- a document has at most so many nodes
abbrev pub document_limit : ℕ
document_limit = 1000000

-- a step down: a schema node, and at an entry or item its position among those of that node, from 1
pub record Step : Type 0 where
  pub schema_number : ℕ
  pub position : Option ℕ

-- a step to the one instance of a schema node
abbrev pub step_to : ℕ → Step
step_to number = record { schema_number = number; position = None }

-- a step to the instance at a position
abbrev pub step_at : ℕ → ℕ → Step
step_at number position = record { schema_number = number; position = Some position }

-- the steps to a node below a place
abbrev pub below_place : List Step → SchemaNode → List Step
below_place place n = place ++ step_to n.number ∷ []

abbrev pub instance_place : List Step → SchemaNode → ℕ → List Step
instance_place place n position = place ++ step_at n.number position ∷ []

-- how many instances of a schema node a row has, and these alone
abbrev pub instances_in : Tree → ℕ → ℕ
instances_in tree number = count_by (λ (s : Stored). s.schema_number == number) (row tree)

abbrev pub instances : ℕ → Tree → Tree
instances number end = end
instances number (node s below after) = if s.schema_number == number then node s below (instances number after)
    else instances number after

-- the first instance of a schema node in a row, and the row below it
abbrev pub stored_in : ℕ → Tree → Option Stored
stored_in number end = None
stored_in number (node s below after) = if s.schema_number == number then Some s else stored_in number after

abbrev pub row_in : ℕ → Tree → Option Tree
row_in number end = None
row_in number (node s below after) = if s.schema_number == number then Some below else row_in number after
