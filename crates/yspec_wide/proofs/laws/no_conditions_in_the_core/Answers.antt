use Rattle.yspec_wide.proofs.CoreWordLemmas.{no_feature, no_condition, no_pattern}
use Rattle.yspec_wide.proofs.laws.no_conditions_in_the_core.Goals as goal

pub returns : goal.returns
returns c = record { features = no_feature; conditions = no_condition; patterns = no_pattern }
