use Rattle.yspec.specs.linking.Expansion.{stands_for}
use Rattle.yspec.proofs.LinkingProofs.ExpansionLemmas as lemma
use Rattle.yspec.proofs.expansion.replaced_by_steps.Goals as goal

pub returns : goal.returns
returns c = λ modules owner depth groupings nodes last ends steps done.
    lemma.replaced_by_steps modules owner (stands_for modules groupings owner depth) groupings nodes last
    (lemma.stands_by_depth modules groupings owner depth ends) steps done
