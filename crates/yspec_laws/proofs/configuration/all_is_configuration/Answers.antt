use Rattle.yspec_laws.proofs.ConfigurationLemmas.{same_inspected}
use Rattle.yspec_laws.proofs.configuration.all_is_configuration.Goals as goal

pub returns : goal.returns
returns c = same_inspected
