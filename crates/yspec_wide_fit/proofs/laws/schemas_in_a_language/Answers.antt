use Rattle.yspec_wide_fit.proofs.FitLemmas.{fit_in, numbered_in}
use Rattle.yspec_wide_fit.proofs.laws.schemas_in_a_language.Goals as goal

pub returns : goal.returns
returns c = record { fit = fit_in; numbered = numbered_in }
