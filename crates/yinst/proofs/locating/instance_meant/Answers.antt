use Rattle.yspec.specs.edit.Editing as spec
use Rattle.yschema_model.specs.View as schema_view
use Rattle.yinst_tree.specs.View.{row_view}
use Rattle.yinst_path.specs.Applying.{edit_number}
use Rattle.yinst_path.specs.Binding.{node_of}
use Rattle.yinst_path.specs.EditView.{predicate_view}
use Rattle.yinst.specs.Locating.{spot_view, meant_in}
use Rattle.yinst_path.proofs.AnswerLemmas.{answers_same}
use Rattle.yinst.proofs.LocatingLemmas.{meant_at}
use Rattle.yinst.proofs.locating.instance_meant.Goals as goal

pub returns : goal.returns
returns c =
    let s = schema_view.view c.args.schema.now in
    let i = c.args.step.id.0 in
    let missing = edit_number c.args.missing in
    let row = row_view c.args.row.now in
    let p = predicate_view c.args.step.predicate.now in
    answers_same spot_view c.meant_in.result (spec.instance_meant s missing row (node_of s i) p) (meant_in s missing row i p) (meant_at s missing row i p) c.meant_in.ensures
