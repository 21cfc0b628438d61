use Rattle.std.proofs.Common.{ap, sym, ◌∙◌}
use Rattle.yspec_run.specs.Script.{without_return}
use Rattle.yapp_script.proofs.ScriptLemmas.{return_dropped, return_kept}
use Rattle.yapp_script.proofs.script.without_return.Goals as goal

pub returns-then-last-eq13 : goal.returns-then-last-eq13
returns-then-last-eq13 c = sym (ap without_return c.in-Some.ensures.cases.0 ∙ return_dropped c.in-Some.front.now _ c.if-last-eq13.true)

pub returns-else-last-eq13 : goal.returns-else-last-eq13
returns-else-last-eq13 c = c.in-Some.ensures.cases.0 ∙ sym (ap without_return c.in-Some.ensures.cases.0 ∙ return_kept c.in-Some.front.now _ c.if-last-eq13.false)
