use Rattle.clap.specs.Words.{subcommand_rows_of}
use Rattle.yapp_words.specs.Command.{condition_fault, feature_fault}
use Rattle.yapp_words.proofs.CommandLemmas.{refuses_first, refuses_then}
use Rattle.yapp_words.proofs.command.language_refusal.Goals as goal

pub returns-in-Some : goal.returns-in-Some
returns-in-Some c =
    let command = subcommand_rows_of c.args.matches.now in
    refuses_first (feature_fault command) (condition_fault command) c.in-Some.refusal c.in-Some.ensures

pub returns-in-None : goal.returns-in-None
returns-in-None c =
    let command = subcommand_rows_of c.args.matches.now in
    refuses_then (feature_fault command) (condition_fault command) c.condition_refusal.result c.in-None.ensures c.condition_refusal.ensures
