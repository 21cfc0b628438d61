use Rattle.yspec.proofs.LinkingProofs.StepLemmas as lemma
use Rattle.yspec.proofs.expansion.steps_end.Goals as goal

pub returns : goal.returns
returns c = λ modules owner depth groupings nodes ends. lemma.steps_end modules owner depth groupings nodes ends
