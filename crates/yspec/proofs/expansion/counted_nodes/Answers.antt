use Rattle.std.specs.Prelude.{◌+◌}
use Rattle.std.proofs.Common.{ap₂}
use Rattle.yspec.specs.linking.Augments.{augments_of}
use Rattle.yspec.specs.linking.Expansion.{groupings_of}
use Rattle.yspec.proofs.LinkingProofs.ExpansionLemmas.{counted_all, counted_added}
use Rattle.yspec.proofs.expansion.counted_nodes.Goals as goal

pub returns : goal.returns
returns c = λ modules. ap₂ (λ m n. m + n) (counted_all modules (groupings_of modules) modules) (counted_added modules (augments_of modules))
