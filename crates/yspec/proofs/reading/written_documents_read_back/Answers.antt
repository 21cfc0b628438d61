use Rattle.yspec.proofs.DocumentProofs.ReadBackLemmas.{written_read}
use Rattle.yspec.proofs.reading.written_documents_read_back.Goals as goal

pub returns : goal.returns
returns c = written_read
