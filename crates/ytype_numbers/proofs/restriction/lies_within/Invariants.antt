use Rattle.std.proofs.Common.{◌≡◌, drop}
use Rattle.yspec.specs.types.Ranges.{lies_within}
use Rattle.ytype_numbers.specs.Covering.{Ascending, CoverAlikeFrom}
use Rattle.ytype_numbers.proofs.restriction.lies_within.Given as goal

abbrev pub invariant-inner : goal.invariant-inner
invariant-inner l = record {
  rest : lies_within (drop l.part-index l.inner) l.outer ≡ lies_within l.inner l.outer;
  ascending : Ascending (drop l.part-index l.inner);
  alike : CoverAlikeFrom (drop l.part-index l.inner) l.left l.outer;
}
