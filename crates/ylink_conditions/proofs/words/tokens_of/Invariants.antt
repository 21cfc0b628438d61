use Rattle.std.proofs.Common.{◌≡◌, ◌++◌, [], length, map, IsUtf8}
use Rattle.yspec_wide.specs.Expressions.{tokens_from}
use Rattle.ylink_conditions.specs.View.{token_view}
use Rattle.ylink_conditions.proofs.words.tokens_of.Given as goal

abbrev pub invariant-loop-at : goal.invariant-loop-at
invariant-loop-at l = (map token_view l.tokens.items ++ tokens_from [] l.rest ≡ tokens_from [] l.fn.text) × IsUtf8 l.rest

abbrev pub decreases-loop-at : goal.decreases-loop-at
decreases-loop-at l = length l.rest
