use Rattle.std.proofs.Common.{codes}
use Rattle.std.proofs.lemmas.Result.{IfOk-weaker}
use Rattle.yapp_words.specs.Application.{any_number}
use Rattle.yapp_words.proofs.CommandLemmas.{told_command, with_argument}
use Rattle.yapp_words.proofs.arguments.explain_command.Goals as goal

pub returns : goal.returns
returns c =
    let bare = told_command (codes "explain") c.new.result c.about.result c.after_help.result _ _ c.new.ensures.app c.new.ensures.local c.about.ensures c.after_help.ensures in
    IfOk-weaker c.arg.result _ _ (λ r added. with_argument _ (any_number (codes "CODE")) _ r _ bare c.codes_argument.ensures added) c.arg.ensures
