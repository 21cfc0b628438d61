use Rattle.std.proofs.Common.{sym, ◌∙◌}
use Rattle.ysay_edit.proofs.SpellingLemmas.{no_step_first}
use Rattle.ysay_edit.proofs.spelling.no_step_in.Goals as goal

pub returns-else-branch : goal.returns-else-branch
returns-else-branch c =
    sym (no_step_first c.loop-part.rest.now c.in-Some.part.now c.in-Some.more.now (sym c.in-Some.ensures.sides) (sym c.in_ok-is_step.ensures ∙ c.if-branch.false))
    ∙ c.loop-part.invariant.0
