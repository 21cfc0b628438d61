use Rattle.yspec.proofs.TextProofs.SpellingLemmas.{refused_spells_nothing, nothing_is_refused}
use Rattle.yspec.proofs.spelling.refusals.Goals as goal

pub returns : goal.returns
returns c = record { refused_alone = refused_spells_nothing; all_refused = nothing_is_refused }
