use Rattle.std.proofs.Common.{codes}
use Rattle.std.proofs.lemmas.Result.{IfOk-weaker}
use Rattle.yapp_words.specs.Application.{option}
use Rattle.yapp_words.proofs.CommandLemmas.{with_argument}
use Rattle.yapp_words.proofs.arguments.command_told_once.Goals as goal

pub returns : goal.returns
returns c =
    let bare = c.in_ok-command_over_files.ensures in
    IfOk-weaker c.arg.result _ _ (λ r added. with_argument _ (option (codes "format")) _ r _ bare c.format_argument.ensures added) c.arg.ensures
