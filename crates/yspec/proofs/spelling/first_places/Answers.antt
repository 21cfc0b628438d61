use Rattle.std.proofs.Common.{refl}
use Rattle.yspec.specs.text.Slips.{wrong_escapes, slips_from, told_slip}
use Rattle.yspec.proofs.LiteralLemmas.{yspec_on_literals}
use Rattle.yspec.proofs.spelling.first_places.Goals as goal

pub returns : goal.returns
unfolding yspec_on_literals wrong_escapes slips_from told_slip
returns c = record { comment_end = refl; string_behind_plus = refl; comment_behind_plus = refl; quoted_keyword = refl; open_keyword = refl; end_lacking = refl; unformed_second = refl; escape_before_the_end = refl; escape_before_a_line_break = refl }
