use Rattle.std.proofs.Common.{refl}
use Rattle.yspec.proofs.LiteralLemmas.{yspec_on_literals}
use Rattle.yspec.proofs.text.scanned_texts.Goals as goal

pub returns : goal.returns
unfolding yspec_on_literals
returns c = record { kinds = refl; long_words = refl; nothing = refl; stray_end = refl; open_quote = refl; open_comment = refl; wrong_escape = refl; return_in_a_gap = refl; behind_an_escape = refl; before_an_escape = refl; in_an_open_quote = refl }
