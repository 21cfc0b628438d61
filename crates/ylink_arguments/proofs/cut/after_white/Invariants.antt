use Rattle.std.proofs.Common.{◌≡◌, length, IsUtf8}
use Rattle.yspec.specs.linking.Arguments.{after_white}
use Rattle.ylink_arguments.proofs.cut.after_white.Given as goal

abbrev pub invariant-loop-more : goal.invariant-loop-more
invariant-loop-more l = (after_white l.rest ≡ after_white l.fn.text) × IsUtf8 l.rest

abbrev pub decreases-loop-more : goal.decreases-loop-more
decreases-loop-more l = length l.rest
