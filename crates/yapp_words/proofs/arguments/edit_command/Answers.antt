use Rattle.std.proofs.Common.{codes}
use Rattle.std.proofs.lemmas.Result.{IfOk-weaker}
use Rattle.yapp_words.specs.Application.{flag, option, wanted, wanted_all}
use Rattle.yapp_words.proofs.CommandLemmas.{with_argument}
use Rattle.yapp_words.proofs.arguments.edit_command.Goals as goal

pub returns : goal.returns
returns c =
    let bare = c.in_ok-command_over_document.ensures in
    let dump = with_argument _ (flag (codes "dump")) _ _ _ bare c.dump_argument.ensures c.in_ok-arg.ensures in
    let output = with_argument _ (option (codes "output")) _ _ _ dump c.output_argument.ensures c.in_ok-arg-2.ensures in
    let document = with_argument _ (wanted (codes "DATA")) _ _ _ output c.document_argument.ensures c.in_ok-arg-3.ensures in
    let script = with_argument _ (wanted (codes "SCRIPT")) _ _ _ document c.script_argument.ensures c.in_ok-arg-4.ensures in
    IfOk-weaker c.arg-5.result _ _ (λ r added. with_argument _ (wanted_all (codes "MODULE")) _ r _ script c.modules_argument.ensures added) c.arg-5.ensures
