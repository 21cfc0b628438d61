use Rattle.ylive_facts.proofs.TellingLemmas.{told_by_keys}
use Rattle.ylive_facts.proofs.laws.told_nodes.Goals as goal

pub returns : goal.returns
returns c = told_by_keys
