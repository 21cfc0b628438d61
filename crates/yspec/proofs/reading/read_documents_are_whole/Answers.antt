use Rattle.yspec.proofs.DocumentProofs.ReadWholeLemmas.{read_whole}
use Rattle.yspec.proofs.reading.read_documents_are_whole.Goals as goal

pub returns : goal.returns
returns c = λ schema bytes tree numbered differ bare is. read_whole schema bytes tree numbered differ bare is
