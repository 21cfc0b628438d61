use Rattle.std.proofs.Common.{◌≡◌, ◌+◌, drop, length}
use Rattle.ytext.specs.View.{modules_view}
use Rattle.yspec_run.specs.Unjudged.{statements_called}
use Rattle.yapp.proofs.unjudged.statements_called.Given as goal

abbrev pub invariant-loop-parsed : goal.invariant-loop-parsed
invariant-loop-parsed l =
    length l.found.items + statements_called l.keyword (modules_view (drop l.parsed-index l.modules)) ≡ statements_called l.keyword (modules_view l.modules)
