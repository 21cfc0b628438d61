use Rattle.ylive_marks.proofs.AgreeLemmas.{agrees_similar}
use Rattle.ylive_marks.proofs.agreements.similar_keys.Goals as goal

pub returns : goal.returns
returns c nodes keys others f similar agrees = agrees_similar c.keys_alike.ensures nodes keys others f similar agrees
