use Rattle.yspec_laws.proofs.ConfigurationLemmas.{told_where_left_out}
use Rattle.yspec_laws.proofs.configuration.told_state.Goals as goal

pub returns : goal.returns
returns c = told_where_left_out
