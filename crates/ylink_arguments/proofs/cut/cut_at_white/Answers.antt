use Rattle.std.proofs.Common.{rules}
use Rattle.yspec.specs.text.Text.{is_white}
use Rattle.ylink_arguments.proofs.CutLemmas.{split_nowhere, split_somewhere}
use Rattle.ylink_arguments.proofs.cut.cut_at_white.Goals as goal

pub returns-in_err-at-clause-parts : goal.returns-in_err-at-clause-parts
returns-in_err-at-clause-parts c =
    split_nowhere is_white c.args.text.now c.from_residual.result c.from_residual.ensures (search rules)

pub returns-clause-parts : goal.returns-clause-parts
returns-clause-parts c =
    split_somewhere is_white c.args.text.now c.in_ok-at.at c.parts_around.result.0.now c.parts_around.result.1.now
    (search rules) c.parts_around.ensures.before c.parts_around.ensures.behind
