use Rattle.std.proofs.Common.{ap}
use Rattle.yspec.specs.edit.Editing.{branch_of}
use Rattle.yschema_model.specs.View as schema_view
use Rattle.yinst_path.specs.Binding.{node_of}
use Rattle.yinst.specs.Rows.{branch_view}
use Rattle.yinst_path.proofs.AnswerLemmas.{answers_same}
use Rattle.yinst.proofs.LocatingLemmas.{number_is}
use Rattle.yinst.proofs.applying.part_at.Goals as goal

pub returns : goal.returns
returns c =
    let s = schema_view.view c.args.schema.now in
    answers_same branch_view c.part.result (branch_of s (node_of s c.args.id.0).number c.args.text.now) (branch_of s c.args.id.0 c.args.text.now)
    (ap (λ i. branch_of s i c.args.text.now) (number_is s c.args.id.0)) c.part.ensures
