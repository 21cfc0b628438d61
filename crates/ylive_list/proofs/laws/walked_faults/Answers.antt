use Rattle.ylive_list.proofs.WalkLemmas.{first_given, all_given}
use Rattle.ylive_list.proofs.laws.walked_faults.Goals as goal

pub returns : goal.returns
returns c = record { first = first_given; all = all_given }
