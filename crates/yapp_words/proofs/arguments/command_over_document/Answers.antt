use Rattle.std.proofs.Common.{codes}
use Rattle.std.proofs.lemmas.Result.{IfOk-weaker}
use Rattle.yapp_words.specs.Application.{flag}
use Rattle.yapp_words.proofs.CommandLemmas.{with_argument}
use Rattle.yapp_words.proofs.arguments.command_over_document.Goals as goal

pub returns : goal.returns
returns c =
    let strict = with_argument _ (flag (codes "strict")) _ _ _ c.in_ok-command_told_once.ensures c.strict_argument.ensures c.in_ok-arg.ensures in
    IfOk-weaker c.arg-2.result _ _ (λ r added. with_argument _ (flag (codes "config")) _ r _ strict c.config_argument.ensures added) c.arg-2.ensures
