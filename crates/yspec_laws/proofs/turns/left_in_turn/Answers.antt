use Rattle.yspec_laws.proofs.TurnLemmas.{none_ready}
use Rattle.yspec_laws.proofs.turns.left_in_turn.Goals as goal

pub returns : goal.returns
returns c c' = none_ready
