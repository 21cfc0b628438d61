use Rattle.std.proofs.Common.{refl}
use Rattle.yspec.proofs.LiteralLemmas.{yspec_on_literals}
use Rattle.yspec.proofs.text.refused_texts.Goals as goal

pub returns : goal.returns
unfolding yspec_on_literals
returns c = record { no_text = refl; not_closed = refl; no_text_of_utf8 = refl; carriage_return = refl; wrong_escape = refl; word_behind_plus = refl; two_arguments = refl; stray_end = refl; not_closed_behind_plus = refl; brace_without_statement = refl; second_top = refl; ends_within = refl; noncharacter = refl; form_feed = refl; no_keyword = refl }
