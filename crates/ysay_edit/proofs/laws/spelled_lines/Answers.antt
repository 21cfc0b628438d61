use Rattle.ysay_edit.proofs.SpellingLaws.{an_edit_unsaid, no_edit_said}
use Rattle.ysay_edit.proofs.laws.spelled_lines.Goals as goal

pub returns : goal.returns
returns c = record { no_edit = no_edit_said; an_edit = an_edit_unsaid }
