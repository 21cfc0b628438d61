use Rattle.std.proofs.Common.{sym, ◌∙◌}
use Rattle.yapp_words.proofs.HelpLemmas.{command_help, helped, helpless}
use Rattle.yapp_words.proofs.command.help_about.Goals as goal

pub help_for-requires : goal.help_for-requires
help_for-requires c = command_help c.args.name.now (sym c.is_command.ensures ∙ c.if-is_command.true) c.args.program.now

pub returns-then-is_command : goal.returns-then-is_command
returns-then-is_command c =
    helped c.args.program.now c.args.help.now c.args.name.now c.help_for.result c.requires (sym c.is_command.ensures ∙ c.if-is_command.true) c.help_for.ensures

pub returns-else-is_command : goal.returns-else-is_command
returns-else-is_command c =
    helpless c.args.program.now c.args.help.now c.args.name.now c.command_refusal.result c.requires (sym c.is_command.ensures ∙ c.if-is_command.false) c.command_refusal.ensures
