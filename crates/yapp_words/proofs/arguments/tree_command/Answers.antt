use Rattle.std.proofs.Common.{codes}
use Rattle.std.proofs.lemmas.Result.{IfOk-weaker}
use Rattle.yapp_words.specs.Application.{any_number, flag, wanted}
use Rattle.yapp_words.proofs.CommandLemmas.{with_argument}
use Rattle.yapp_words.proofs.arguments.tree_command.Goals as goal

pub returns : goal.returns
returns c =
    let bare = c.in_ok-command_told_once.ensures in
    let all = with_argument _ (flag (codes "all")) _ _ _ bare c.all_argument.ensures c.in_ok-arg.ensures in
    let name = with_argument _ (wanted (codes "NAME")) _ _ _ all c.name_argument.ensures c.in_ok-arg-2.ensures in
    IfOk-weaker c.arg-3.result _ _ (λ r added. with_argument _ (any_number (codes "MODULE")) _ r _ name c.other_modules_argument.ensures added) c.arg-3.ensures
