use Rattle.std.proofs.Common.{map, sym}
use Rattle.yspec_run.specs.Output.{performed}
use Rattle.yapp_words.specs.Command.{view}
use Rattle.yapp_report.specs.Failing.{besides_in, unsaid}
use Rattle.yapp.proofs.answering.perform_by.Goals as goal

pub returns-in-Ok-clause-leads : goal.returns-in-Ok-clause-leads
returns-in-Ok-clause-leads c = λ files. (unsaid, c.in-Ok.ensures.leads files)

pub returns-in-Err-clause-leads : goal.returns-in-Err-clause-leads
returns-in-Err-clause-leads c = λ files. (
  besides_in c.in-Err.failure,
  c.failed_by.ensures (view c.args.request.now) (performed (view c.args.request.now) (map (λ t. t.items) c.args.contents.now)) files (c.in-Err.ensures.leads files),
)
