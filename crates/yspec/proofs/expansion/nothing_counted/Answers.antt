use Rattle.yspec.specs.linking.Expansion.{stands_for}
use Rattle.yspec.proofs.LinkingProofs.ExpansionLemmas.{count_is_size, none_in}
use Rattle.yspec.proofs.expansion.nothing_counted.Goals as goal

pub returns : goal.returns
returns c = λ modules groupings owner depth u none. none_in (stands_for modules groupings owner depth u)
    (count_is_size modules groupings owner depth u) none
