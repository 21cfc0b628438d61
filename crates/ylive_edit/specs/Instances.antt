-- The instance of a schema node that a step of a path means, in a row of a store.
use Rattle.std.specs.Prelude.{◌≡◌, ℕ, ◌==◌, nat_lt, List, [], ◌∷◌, Option, Result, Ok, Err, if◌then◌else◌}
use Rattle.yspec.specs.Forest.{end, node}
use Rattle.yspec.specs.Results.{Fails}
use Rattle.yspec.specs.document.Document.{Tree, Step, instances_in}
use Rattle.yspec.specs.edit.Edit.{instance_index}
use Rattle.yspec.specs.edit.Editing.{EditRefusal, refused}
use Rattle.yschema_model.specs.declared.node.SchemaId.{SchemaId}
use Rattle.yinst_path.specs.Applying.{told_by}
use Rattle.yinst_path.specs.declared.edit.EditFault.{EditFault}
use Rattle.ystore_rows.specs.declared.row.NodeId.{NodeId}
use Rattle.ystore_tree.specs.Hanging.{Branches}
use Rattle.ystore_tree.specs.Ways.{Found}

-- The node of a row that is found is the one that the definition's step names; or the definition refuses so, and of want of
-- memory nothing is said.
abbrev pub Meets : SchemaId → Branches → Result Step EditRefusal → Result NodeId EditFault → Type 0
Meets id f answer (Ok it) = (step : Step) × (answer ≡ Ok step) × (id.0 ≡ step.schema_number) × Found id (instance_index step) it f
Meets id f answer (Err fault) = Fails (told_by fault) answer

abbrev pub step_of : ℕ → Option ℕ → Step
step_of number position = record { schema_number = number; position = position }

-- the first instance of a schema node in a row, or that at a position, if it is there
abbrev pub instance_in : ℕ → Tree → ℕ → Option ℕ → Result Step EditRefusal
instance_in missing row number position = if nat_lt (instance_index (step_of number position)) (instances_in row number)
    then Ok (step_of number position) else refused missing

-- ---- entries

-- the rows below the instances of a schema node in a row
abbrev pub rows_of : ℕ → Tree → List Tree
rows_of number end = []
rows_of number (node s below after) = if s.schema_number == number then below ∷ rows_of number after else rows_of number after
