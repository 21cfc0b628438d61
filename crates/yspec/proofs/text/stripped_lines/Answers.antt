use Rattle.std.proofs.Common.{refl}
use Rattle.yspec.proofs.LiteralLemmas.{yspec_on_literals}
use Rattle.yspec.proofs.text.stripped_lines.Goals as goal

pub returns : goal.returns
unfolding yspec_on_literals
returns c = record { past_the_column = refl; tabs = refl; escaped_line_feed = refl; ends_of_lines = refl; carriage_return = refl; single_quotes = refl; escaped_quote = refl; wide_character = refl; tab_before_the_quote = refl; tab_within_the_gap = refl }
