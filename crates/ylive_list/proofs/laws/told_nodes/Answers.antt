use Rattle.ylive_list.proofs.TellingLemmas.{told_at_node}
use Rattle.ylive_list.proofs.laws.told_nodes.Goals as goal

pub returns : goal.returns
returns c = told_at_node
