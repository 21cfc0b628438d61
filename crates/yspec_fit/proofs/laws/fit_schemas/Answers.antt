use Rattle.yspec_fit.proofs.FitLemmas.{compiled_is_fit, configuration_is_fit}
use Rattle.yspec_fit.proofs.laws.fit_schemas.Goals as goal

pub returns : goal.returns
returns c = record { compiled = λ modules schema is. compiled_is_fit schema (modules, is); configuration = configuration_is_fit }
