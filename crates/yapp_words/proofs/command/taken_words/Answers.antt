use Rattle.std.proofs.Common.{map, string_bytes, ap, sym, ◌∙◌}
use Rattle.clap.specs.Words.{App, fault_of, is_simple, is_simple_and_free, subcommand_of}
use Rattle.yapp_words.specs.Application.{yanglive}
use Rattle.yapp_words.specs.Command.{misuse_fault}
use Rattle.yapp_words.proofs.CommandLemmas.{declined, declined_by_memory, declined_first, is_free, is_plain, taken_fit}
use Rattle.yapp_words.proofs.HelpLemmas.{refusals_alike}
use Rattle.yapp_words.proofs.command.taken_words.Goals as goal

pub returns-in_err-application : goal.returns-in_err-application
returns-in_err-application c = declined_by_memory (map string_bytes c.args.words.now) c.from_residual.result c.from_residual.ensures.1

pub returns-in-Ok : goal.returns-in-Ok
returns-in-Ok c =
    let app = c.in_ok-application.ensures in
    let words = map string_bytes c.args.words.now in
    let named = (c.in-Ok.ensures.matches (ap is_simple app ∙ is_plain)).1 ∙ ap (λ (a : App). subcommand_of a words) app in
    let none = sym (ap (λ (a : App). fault_of a words) app) ∙ c.in-Ok.ensures.kinds (ap is_simple_and_free app ∙ is_free) in
    taken_fit words _ c.line_or_refusal.result none (sym named) c.line_or_refusal.ensures

pub returns-in-Err : goal.returns-in-Err
returns-in-Err c =
    let app = c.in_ok-application.ensures in
    let words = map string_bytes c.args.words.now in
    declined_first (fault_of yanglive words) (misuse_fault (subcommand_of yanglive words)) c.without_request.result
    (declined (fault_of yanglive words) _ c.without_request.result (refusals_alike words)
    (rw (← ap (λ (a : App). fault_of a words) app) (c.in-Err.ensures.kinds (ap is_simple_and_free app ∙ is_free))) c.without_request.ensures)
