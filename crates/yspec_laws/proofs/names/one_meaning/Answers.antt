use Rattle.yspec_laws.proofs.NameLemmas.{meaning_once}
use Rattle.yspec_laws.proofs.names.one_meaning.Goals as goal

pub returns : goal.returns
returns c = meaning_once
