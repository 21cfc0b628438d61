use Rattle.std.proofs.Common.{codes}
use Rattle.std.proofs.lemmas.Result.{IfOk-weaker}
use Rattle.yapp_words.specs.Application.{wanted_all}
use Rattle.yapp_words.proofs.CommandLemmas.{with_argument}
use Rattle.yapp_words.proofs.arguments.compile_command.Goals as goal

pub returns : goal.returns
returns c =
    let bare = c.in_ok-command_told_once.ensures in
    IfOk-weaker c.arg.result _ _ (λ r added. with_argument _ (wanted_all (codes "MODULE")) _ r _ bare c.modules_argument.ensures added) c.arg.ensures
