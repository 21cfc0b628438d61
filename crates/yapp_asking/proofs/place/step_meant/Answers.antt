use Rattle.std.proofs.Common.{sym}
use Rattle.yschema_model.specs.View as schema_view
use Rattle.yinst_tree.specs.View.{row_view}
use Rattle.yinst_path.specs.EditView.{predicate_view}
use Rattle.yapp_asking.proofs.PlaceLemmas.{bare_meant}
use Rattle.yapp_asking.proofs.place.step_meant.Goals as goal

pub returns-then-is_bare : goal.returns-then-is_bare
returns-then-is_bare c =
    bare_meant (schema_view.view c.args.schema.now) (row_view c.args.row.now) c.args.step.id.0 (predicate_view c.args.step.predicate.now) (sym c.if-is_bare.ensures)
