use Rattle.ytype_patterns.proofs.MeansLemmas.{nothing_means, nil_means, one_means, both_means, either_means, at_least_means, bounded_means}
use Rattle.ytype_patterns.proofs.laws.forms.Goals as goal

pub returns-clause-nothing : goal.returns-clause-nothing
returns-clause-nothing c = nothing_means

pub returns-clause-nil : goal.returns-clause-nil
returns-clause-nil c = nil_means

pub returns-clause-one : goal.returns-clause-one
returns-clause-one c = one_means

pub returns-clause-both : goal.returns-clause-both
returns-clause-both c = both_means

pub returns-clause-either : goal.returns-clause-either
returns-clause-either c = either_means

pub returns-clause-at_least : goal.returns-clause-at_least
returns-clause-at_least c = at_least_means

pub returns-clause-at_most : goal.returns-clause-at_most
returns-clause-at_most c = bounded_means
