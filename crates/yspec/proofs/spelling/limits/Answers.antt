use Rattle.std.proofs.Common.{refl, length}
use Rattle.yspec.specs.text.Slips.{wrong_escapes, slips_from, told_slip}
use Rattle.std.proofs.lemmas.Bool.{lt-ltb}
use Rattle.yspec.specs.text.Statement.{text_limit}
use Rattle.yspec.proofs.LiteralLemmas.{yspec_on_literals}
use Rattle.yspec.proofs.spelling.limits.Goals as goal

pub returns : goal.returns
unfolding yspec_on_literals wrong_escapes slips_from told_slip
returns c = record { deepest = refl; too_deep = refl; too_long = λ text h. rw (lt-ltb text_limit (length text) h) refl }
