use Rattle.std.proofs.Common.{rules}
use Rattle.yapp_words.proofs.HelpLemmas.{all_help, few_taken, many_taken}
use Rattle.yapp_words.proofs.command.read_words.Goals as goal
use Rattle.yapp_words.proofs.command.read_words.Goals.{in_default-via-then-words-lt2, in_default-via-else-words-lt2+else-words-lt3+else-words-lt4}

pub help_for-requires : goal.help_for-requires
help_for-requires c = all_help c.as_str-then-eq.result.now

pub returns-in_default : goal.returns-in_default
returns-in_default c = elim c.in_default.branch [
  | in_default-via-then-words-lt2 w ↦ few_taken c.args.words.now c.taken_words-in_default.result (search rules) c.taken_words-in_default.ensures
  | in_default-via-else-words-lt2+else-words-lt3+else-words-lt4 w ↦ many_taken c.args.words.now c.taken_words-in_default.result (search rules) c.taken_words-in_default.ensures
]
