use Rattle.std.proofs.Common.{◌≡◌, ◌++◌, replicate, string_bytes}
use Rattle.yspec.specs.text.Text.{space}
use Rattle.ytext.proofs.quoted.push_spaces.Given as goal

abbrev pub invariant-loop-left : goal.invariant-loop-left
invariant-loop-left l = string_bytes l.text ++ replicate l.left space ≡ string_bytes l.fn.text ++ replicate l.count space

abbrev pub decreases-loop-left : goal.decreases-loop-left
decreases-loop-left l = l.left
