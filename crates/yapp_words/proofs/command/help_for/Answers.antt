use Rattle.std.proofs.Common.{map, ap, sym, ◌∙◌}
use Rattle.clap.specs.Words.{App, fault_of, is_simple_and_free, subcommand_of}
use Rattle.yapp_words.specs.Application.{yanglive}
use Rattle.yapp_words.specs.Command.{misuse_fault}
use Rattle.yapp_words.proofs.CommandLemmas.{asked_help, declined, declined_first, is_free}
use Rattle.yapp_words.proofs.HelpLemmas.{refusals_alike}
use Rattle.yapp_words.proofs.command.help_for.Goals as goal

pub unreachable-requires : goal.unreachable-requires
unreachable-requires c =
    let app = c.in-Ok.ensures in
    let words = map (λ word. word.now) c.args.words.now in
    asked_help (fault_of yanglive words) c.requires (sym (ap (λ (a : App). fault_of a words) app)
    ∙ c.in-Ok-try_get_matches_from.ensures.kinds (ap is_simple_and_free app ∙ is_free))

pub returns-in-Err-try_get_matches_from : goal.returns-in-Err-try_get_matches_from
returns-in-Err-try_get_matches_from c =
    let app = c.in-Ok.ensures in
    let words = map (λ word. word.now) c.args.words.now in
    declined_first (fault_of yanglive words) (misuse_fault (subcommand_of yanglive words)) c.without_request.result
    (declined (fault_of yanglive words) _ c.without_request.result (refusals_alike words)
    (rw (← ap (λ (a : App). fault_of a words) app) (c.in-Err-try_get_matches_from.ensures.kinds (ap is_simple_and_free app ∙ is_free))) c.without_request.ensures)
