use Rattle.yspec_wide.proofs.CoreTypeLemmas.{type_alike}
use Rattle.yspec_wide.proofs.laws.kept_types.Goals as goal

pub returns : goal.returns
returns c = type_alike
