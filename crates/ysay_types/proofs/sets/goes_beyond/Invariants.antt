use Rattle.std.proofs.Common.{◌≡◌, drop}
use Rattle.std.specs.List.{list_any}
use Rattle.ysay_types.specs.Restrictions.{is_beyond}
use Rattle.ysay_types.proofs.sets.goes_beyond.Given as goal

abbrev pub invariant-loop-span : goal.invariant-loop-span
invariant-loop-span l = list_any (is_beyond l.outer) (drop l.span-index l.spans) ≡ list_any (is_beyond l.outer) l.spans
