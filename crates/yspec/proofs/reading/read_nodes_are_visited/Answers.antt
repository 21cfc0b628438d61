use Rattle.yspec.proofs.DocumentProofs.RightNodeLemmas.{read_counted, read_within}
use Rattle.yspec.proofs.reading.read_nodes_are_visited.Goals as goal

pub returns-clause-visited : goal.returns-clause-visited
returns-clause-visited c = λ schema bytes value tree differ bare json is. read_counted schema bytes value tree differ bare json is

pub returns-clause-within : goal.returns-clause-within
returns-clause-within c = λ schema bytes tree differ bare is. read_within schema bytes tree differ bare is
