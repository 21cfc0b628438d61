use Rattle.yspec.proofs.TextProofs.SpellingLemmas as laws
use Rattle.yspec.proofs.spelling.one_reading.Goals as goal

pub returns : goal.returns
returns c = laws.one_reading
