use Rattle.yspec.proofs.TextProofs.SpellingLemmas.{module_found, module_only}
use Rattle.yspec.proofs.spelling.reading.Goals as goal

pub returns : goal.returns
returns c = record { found = module_found; only = module_only }
