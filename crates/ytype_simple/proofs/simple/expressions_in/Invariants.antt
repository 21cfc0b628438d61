use Rattle.std.proofs.Common.{◌≡◌, ◌++◌, map, drop}
use Rattle.ytype_simple.specs.Patterns.{expressions_in, matching_view}
use Rattle.ytype_simple.proofs.simple.expressions_in.Given as goal

abbrev pub invariant-limits : goal.invariant-limits
invariant-limits l = map matching_view l.found.items ++ expressions_in (drop l.index l.limits) ≡ expressions_in l.limits
