use Rattle.std.proofs.Common.{None, []}
use Rattle.yspec.specs.edit.Editing.{bound_steps}
use Rattle.yschema_model.specs.View.{view}
use Rattle.yschema_model.proofs.CallerLemmas.{numbered}
use Rattle.yinst_path.specs.EditView.{steps_view}
use Rattle.yinst_path.specs.Binding.{bound_view, bound_on}
use Rattle.yinst_path.proofs.AnswerLemmas.{answers_same}
use Rattle.yinst_path.proofs.BindingLemmas.{steps_named}
use Rattle.yinst_path.proofs.binding.named_steps.Goals as goal

pub returns : goal.returns
returns c =
    let s = view c.args.schema.now in
    answers_same (bound_view s) c.steps_below.result (bound_steps s None s.nodes (steps_view c.args.steps.now)) (bound_on s [] None (steps_view c.args.steps.now))
    (steps_named s (steps_view c.args.steps.now) (numbered c.args.schema.now)) c.steps_below.ensures
