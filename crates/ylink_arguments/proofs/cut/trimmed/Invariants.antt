use Rattle.std.proofs.Common.{◌≡◌, length, IsUtf8}
use Rattle.yspec.specs.linking.Arguments.{after_white, before_white}
use Rattle.ylink_arguments.proofs.cut.trimmed.Given as goal

abbrev pub invariant-loop-less : goal.invariant-loop-less
invariant-loop-less l = (before_white l.rest ≡ before_white (after_white l.fn.text)) × IsUtf8 l.rest

abbrev pub decreases-loop-less : goal.decreases-loop-less
decreases-loop-less l = length l.rest
