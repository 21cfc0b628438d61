-- Live documents, and what comes of edits, as the specification's.
use Rattle.std.specs.Prelude.{List, map, Some, None}
use Rattle.yspec.specs.edit.Live as spec
use Rattle.yspec.specs.edit.EditText as text
use Rattle.yspec.specs.edit.Editing.{Decision}
use Rattle.yschema_model.specs.View as schema_view
use Rattle.yinst_path.specs.EditView.{edit_view}
use Rattle.yinst_path.specs.Applying.{refusal_view}
use Rattle.yinst_path.specs.declared.edit.Edit.{Edit}
use Rattle.ystore.specs.Store.{node_count}
use Rattle.ystore_rows.specs.declared.row.Row.TheVariants.{Top}
use Rattle.ystore_tree.specs.Copies.{listed_below}
use Rattle.ylive.specs.Kept.{Parts}
use Rattle.ylive.specs.declared.outcome.Outcome.{Outcome}
use Rattle.ylive.specs.declared.outcome.Outcome.TheVariants.{Accepted, Refused}

-- what it stores is what its store lists, from the top down
abbrev pub view : Parts → spec.Live
view live = record {
  schema = schema_view.view live.schema;
  tree = listed_below (node_count live.nodes) live.nodes Top;
  is_stale = live.is_stale;
}

abbrev pub outcome_view : Outcome → Decision
outcome_view Accepted = None
outcome_view (Refused code doc) = Some (refusal_view code doc)

abbrev pub outcomes_view : List Outcome → List Decision
outcomes_view = map outcome_view

abbrev pub edits_view : List Edit → List text.Edit
edits_view = map edit_view
