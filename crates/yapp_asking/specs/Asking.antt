-- What is asked of a node, as it is looked for.
use Rattle.std.specs.Borrow.{Bor}
use Rattle.std.specs.Prelude.{List, [], ◌∷◌, ◌++◌, Vec, false, Option, option_map, Result, Ok}
use Rattle.yspec.specs.Results.{◌>>=◌}
use Rattle.yspec.specs.schema.Schema.{Schema}
use Rattle.yspec.specs.document.Document.{Tree, Step}
use Rattle.yspec.specs.edit.Edit.{instance_index}
use Rattle.yspec.specs.edit.EditText.{Path}
use Rattle.yspec.specs.edit.Editing.{Branch, BoundStep, EditRefusal, row_at, target_of}
use Rattle.yspec_session.specs.Session.{step_meant, value_at}
use Rattle.yinst_tree.specs.declared.tree.Stored.{Stored}
use Rattle.yinst.specs.Locating.{spots_view}
use Rattle.yinst.specs.Rows.{branch_view}
use Rattle.yinst.specs.declared.locating.Spot.{Spot}

abbrev pub place_view : {A : Type 0} → Vec Spot A → List Step
place_view place = spots_view place.items

-- the steps that are meant, behind those so far
abbrev pub steps_on : Schema → List Step → Tree → List BoundStep → Result (List Step) EditRefusal
steps_on schema so_far row [] = Ok so_far
steps_on schema so_far row (b ∷ bs) = step_meant schema row b >>= (λ step.
    steps_on schema (so_far ++ step ∷ []) (row_at step.schema_number (instance_index step) row) bs)

abbrev pub found_view : Option (Bor Stored) → Option Branch
found_view found = option_map (λ stored. branch_view stored.now) found

-- what is stored at the node that a path means, as of an edit
abbrev pub stored_meant : Schema → Tree → Path → Result (Option Branch) EditRefusal
stored_meant schema tree path = target_of schema tree false path >>= value_at schema
