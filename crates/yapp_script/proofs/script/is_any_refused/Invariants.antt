use Rattle.std.proofs.Common.{◌≡◌, drop, map}
use Rattle.ylive.specs.View.{outcomes_view}
use Rattle.yapp_script.specs.Asked.{any_refused, line_view}
use Rattle.yapp_script.proofs.script.is_any_refused.Given as goal

abbrev pub invariant-loop-line : goal.invariant-loop-line
invariant-loop-line l = any_refused (map line_view (drop l.line-index l.lines)) (outcomes_view l.rest)
    ≡ any_refused (map line_view l.lines) (outcomes_view l.fn.outcomes)
