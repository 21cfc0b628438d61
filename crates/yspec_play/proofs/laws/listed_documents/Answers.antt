use Rattle.yspec_play.proofs.ListLemmas.{documents_listed, rows_listed}
use Rattle.yspec_play.proofs.laws.listed_documents.Goals as goal

pub returns : goal.returns
returns c = record {
  faults = documents_listed;
  rows = λ times row schema above t numbered cased fits. rows_listed schema (λ n value. Unit {0}) times numbered above 0 row t cased fits;
}
