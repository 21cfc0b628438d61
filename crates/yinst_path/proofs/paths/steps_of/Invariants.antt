use Rattle.std.proofs.Common.{◌≡◌, ◌++◌, length, IsUtf8, None, option_map}
use Rattle.yspec.specs.text.Text.{slash}
use Rattle.yspec.specs.edit.EditText.{all_or_none, step_of, parts_at}
use Rattle.yinst_path.specs.EditView.{steps_view}
use Rattle.yinst_path.proofs.paths.steps_of.Given as goal

abbrev pub invariant-loop-part : goal.invariant-loop-part
invariant-loop-part l = (option_map (λ more. steps_view l.steps.items ++ more) (all_or_none step_of (parts_at slash None l.rest))
    ≡ all_or_none step_of (parts_at slash None l.fn.text)) × IsUtf8 l.rest

abbrev pub decreases-loop-part : goal.decreases-loop-part
decreases-loop-part l = length l.rest
