use Rattle.std.proofs.Common.{◌≡◌, length, IsUtf8}
use Rattle.ysay_edit.specs.Spelling.{no_step_in}
use Rattle.ysay_edit.proofs.spelling.no_step_in.Given as goal

abbrev pub invariant-loop-part : goal.invariant-loop-part
invariant-loop-part l = (no_step_in l.rest ≡ no_step_in l.fn.steps) × IsUtf8 l.rest

abbrev pub decreases-loop-part : goal.decreases-loop-part
decreases-loop-part l = length l.rest
