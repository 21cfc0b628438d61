use Rattle.std.proofs.Common.{refl}
use Rattle.yspec.proofs.LiteralLemmas.{yspec_on_literals}
use Rattle.ylive_facts.proofs.worked.worked_keys.Goals as goal

pub returns : goal.returns
unfolding yspec_on_literals
returns c = record { entry = refl; wordless = refl; wrong = refl; keyless = refl; reference = refl }
