use Rattle.std.proofs.Common.{codes}
use Rattle.std.proofs.lemmas.Result.{IfOk-weaker}
use Rattle.yapp_words.specs.Application.{wanted, wanted_all}
use Rattle.yapp_words.proofs.CommandLemmas.{with_argument}
use Rattle.yapp_words.proofs.arguments.validate_command.Goals as goal

pub returns : goal.returns
returns c =
    let bare = c.in_ok-command_over_document.ensures in
    let document = with_argument _ (wanted (codes "DATA")) _ _ _ bare c.document_argument.ensures c.in_ok-arg.ensures in
    IfOk-weaker c.arg-2.result _ _ (λ r added. with_argument _ (wanted_all (codes "MODULE")) _ r _ document c.modules_argument.ensures added) c.arg-2.ensures
