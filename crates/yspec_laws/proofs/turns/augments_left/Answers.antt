use Rattle.std.proofs.Common.{length, arith}
use Rattle.yspec.specs.linking.Augments.{applied, augments_of, is_ready}
use Rattle.yspec.specs.linking.Expansion.{expanded_parts}
use Rattle.yspec_laws.proofs.TurnLemmas.{none_ready}
use Rattle.yspec_laws.proofs.turns.augments_left.Goals as goal

pub returns : goal.returns
returns c = λ modules. none_ready (is_ready modules) (applied modules) (length (augments_of modules)) (expanded_parts modules) (augments_of modules) (omega arith)
