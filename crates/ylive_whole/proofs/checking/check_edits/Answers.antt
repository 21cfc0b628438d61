use Rattle.std.proofs.Common.{subst}
use Rattle.yspec.specs.Results.{Gives}
use Rattle.yspec.specs.edit.Live.{checked, checked_under}
use Rattle.yspec_wide.proofs.CoreCompilingLemmas.{compiled_alike}
use Rattle.ytext.specs.View.{modules_view}
use Rattle.ylive.specs.View.{edits_view}
use Rattle.ylive_whole.specs.Checking.{checked_view, told_by}
use Rattle.ylive_whole.proofs.checking.check_edits.Goals as goal

pub returns-clause-answer : goal.returns-clause-answer
unfolding checked
returns-clause-answer c =
    subst (λ schema. Gives checked_view told_by c.check_edits_in.result (checked_under schema c.args.document.now (edits_view c.args.edits.now)))
    (compiled_alike (modules_view c.args.modules.now)) c.check_edits_in.ensures.answer
