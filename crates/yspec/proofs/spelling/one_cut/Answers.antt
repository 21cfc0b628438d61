use Rattle.yspec.proofs.TextProofs.SpellingLemmas as laws
use Rattle.yspec.proofs.spelling.one_cut.Goals as goal

pub returns : goal.returns
returns c = record { found = laws.text_cut; alone = laws.one_cut }
