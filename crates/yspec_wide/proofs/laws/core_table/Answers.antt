use Rattle.std.proofs.Common.{refl}
use Rattle.yspec_wide.proofs.CoreLemmas.{phase_alike, kept_of_all_alike}
use Rattle.yspec_wide.proofs.laws.core_table.Goals as goal

pub returns : goal.returns
returns c = record { rows = λ version k. refl; told = phase_alike; kept = kept_of_all_alike }
