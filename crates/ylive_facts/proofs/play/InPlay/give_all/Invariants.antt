use Rattle.std.proofs.Common.{drop}
use Rattle.yschema_model.specs.View.{view}
use Rattle.ylive_facts.proofs.PlayLemmas.{ValuesLeft}
use Rattle.ylive_facts.proofs.play.InPlay.give_all.Given as goal

-- the values so far with those that are left
abbrev pub invariant-loop-value : goal.invariant-loop-value
invariant-loop-value l = ValuesLeft (view l.schema) l.id.0 l.values (drop l.value-index l.values) l.fn.self l.self
