use Rattle.yspec_laws.proofs.SameRunLemmas.{same_validated, same_edited}
use Rattle.yspec_laws.proofs.configuration.same_runs.Goals as goal

pub returns : goal.returns
returns c = record { validated = same_validated; edited = same_edited }
