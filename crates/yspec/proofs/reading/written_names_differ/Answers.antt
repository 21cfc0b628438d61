use Rattle.yspec.proofs.DocumentProofs.WrittenNameLemmas.{names_differ}
use Rattle.yspec.proofs.reading.written_names_differ.Goals as goal

pub returns : goal.returns
returns c = names_differ
