use Rattle.std.proofs.Common.{arith}
use Rattle.std.proofs.lemmas.Bool.Decides.{nat_tests}
use Rattle.ytype_patterns.proofs.SetLemmas.{if_ok, within_is}
use Rattle.ytype_patterns.proofs.sets.within.Goals as goal

pub returns : goal.returns
returns c = if_ok _ _ c.from_ranges.result (λ r exactly. within_is c.args.low c.args.high r.ranges.items (grind (arith, nat_tests, c.ranges.high)) r.canonical exactly) c.from_ranges.ensures
