use Rattle.ytype_patterns.proofs.RangeLemmas.{ranges_of_rise, ranges_of_exactly, canonical_is}
use Rattle.ytype_patterns.proofs.laws.ranges.Goals as goal

pub returns : goal.returns
returns c = record { rise = ranges_of_rise; exactly = ranges_of_exactly; only = canonical_is }
