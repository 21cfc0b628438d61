use Rattle.ylive_facts.proofs.SameLemmas.{same_views, same_keys, turned, alike}
use Rattle.ylive_facts.proofs.laws.viewed_keys.Goals as goal

pub returns : goal.returns
returns c = record { same = same_views; told_apart = same_keys; turned = turned; alike = alike }
