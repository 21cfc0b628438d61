use Rattle.yspec_wide.proofs.CoreCompilingLemmas.{compiled_alike}
use Rattle.yspec_wide.proofs.laws.core_compiles.Goals as goal

pub returns : goal.returns
returns c = compiled_alike
