use Rattle.ylive_list.proofs.TellingLemmas.{own_is}
use Rattle.ylive_list.proofs.laws.parted_faults.Goals as goal

pub returns : goal.returns
returns c = own_is
