use Rattle.std.proofs.Common.{codes}
use Rattle.std.proofs.lemmas.Result.{IfOk-weaker}
use Rattle.yapp_words.specs.Application.{flag, option, wanted, wanted_all}
use Rattle.yapp_words.proofs.CommandLemmas.{with_argument}
use Rattle.yapp_words.proofs.arguments.session_command.Goals as goal

pub returns : goal.returns
returns c =
    let strict = with_argument _ (flag (codes "strict")) _ _ _ c.in_ok-command_over_files.ensures c.strict_argument.ensures c.in_ok-arg.ensures in
    let config = with_argument _ (flag (codes "config")) _ _ _ strict c.config_argument.ensures c.in_ok-arg-2.ensures in
    let undo = with_argument _ (option (codes "undo")) _ _ _ config c.undo_argument.ensures c.in_ok-arg-3.ensures in
    let changes = with_argument _ (flag (codes "changes")) _ _ _ undo c.changes_argument.ensures c.in_ok-arg-4.ensures in
    let document = with_argument _ (wanted (codes "DATA")) _ _ _ changes c.document_argument.ensures c.in_ok-arg-5.ensures in
    IfOk-weaker c.arg-6.result _ _ (λ r added. with_argument _ (wanted_all (codes "MODULE")) _ r _ document c.modules_argument.ensures added) c.arg-6.ensures
