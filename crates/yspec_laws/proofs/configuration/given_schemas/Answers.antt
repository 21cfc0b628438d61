use Rattle.yspec_laws.proofs.SameRunLemmas.{given_where_reported}
use Rattle.yspec_laws.proofs.configuration.given_schemas.Goals as goal

pub returns : goal.returns
returns c = given_where_reported
