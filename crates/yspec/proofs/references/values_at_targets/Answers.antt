use Rattle.yspec.proofs.SchemaProofs.MemberLemmas.{value_at_target}
use Rattle.yspec.proofs.references.values_at_targets.Goals as goal

pub returns : goal.returns
returns c = λ before after type raw v i number required m is at target. value_at_target raw before after type v i number required m is at target
