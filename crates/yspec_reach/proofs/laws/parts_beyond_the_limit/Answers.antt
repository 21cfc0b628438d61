use Rattle.yspec_reach.proofs.PartLemmas.{refused_otherwise}
use Rattle.yspec_reach.proofs.laws.parts_beyond_the_limit.Goals as goal

pub returns : goal.returns
returns c = refused_otherwise
