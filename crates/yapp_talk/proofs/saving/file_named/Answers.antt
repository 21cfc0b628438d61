use Rattle.std.proofs.Common.{◌∙◌}
use Rattle.yapp_talk.proofs.SavingLemmas.{named_in_text, none_in_bytes}
use Rattle.yapp_talk.proofs.saving.file_named.Goals as goal

pub returns-in-Ok : goal.returns-in-Ok
returns-in-Ok c =
    c.file_in.ensures ∙ named_in_text c.args.line.now c.in-Ok.text.now c.in-Ok.ensures.cases.0 c.in-Ok.ensures.cases.1

pub returns-in-Err : goal.returns-in-Err
returns-in-Err c = none_in_bytes c.args.line.now c.in-Err.ensures.cases.0
