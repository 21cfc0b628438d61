use Rattle.std.proofs.Common.{ap, ◌∙◌}
use Rattle.std.specs.Prelude.{option_and_then}
use Rattle.ylive_facts.specs.Keys.{required_key}
use Rattle.ylive_facts.proofs.keys.required_key.Goals as goal

pub returns-in-Some : goal.returns-in-Some
returns-in-Some c = c.key_of.ensures ∙ ap (option_and_then required_key) c.in-Some.ensures

pub returns-in-None : goal.returns-in-None
returns-in-None c = ap (option_and_then required_key) c.in-None.ensures
