use Rattle.std.proofs.Common.{refl}
use Rattle.yspec.proofs.LiteralLemmas.{yspec_on_literals}
use Rattle.yspec.proofs.text.cut_words.Goals as goal

pub returns : goal.returns
unfolding yspec_on_literals
returns c = record { comment_in_a_word = refl; comment_between = refl; joined = refl; lone_plus = refl; no_comment_in_quotes = refl; no_argument = refl }
