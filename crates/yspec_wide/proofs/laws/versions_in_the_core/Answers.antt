use Rattle.yspec_wide.proofs.CoreVersionLemmas.{version_said}
use Rattle.yspec_wide.proofs.laws.versions_in_the_core.Goals as goal

pub returns : goal.returns
returns c = version_said
