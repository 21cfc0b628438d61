use Rattle.std.proofs.Common.{[], ◌∷◌, refl}
use Rattle.yspec_wide.specs.Language.{core}
use Rattle.ytext.specs.Told.{told_by}
use Rattle.ytext.specs.View.{modules_view}
use Rattle.ytext.proofs.ParseLemmas.{spells_if_given, told_if_given}
use Rattle.ytext.proofs.text.parse.Goals as goal

pub returns-clause-answer : goal.returns-clause-answer
returns-clause-answer c = c.parse_in.ensures.answer core refl

pub returns-clause-spells : goal.returns-clause-spells
returns-clause-spells c = spells_if_given (λ read. modules_view (read ∷ [])) told_by _ c.args.bytes.now (c.parse_in.ensures.answer core refl)

pub returns-clause-told : goal.returns-clause-told
returns-clause-told c = told_if_given (λ read. modules_view (read ∷ [])) told_by _ c.args.bytes.now (c.parse_in.ensures.answer core refl)
