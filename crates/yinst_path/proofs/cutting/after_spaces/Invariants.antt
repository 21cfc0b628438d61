use Rattle.std.proofs.Common.{◌≡◌, length, IsUtf8}
use Rattle.yspec.specs.edit.EditText.{after_spaces}
use Rattle.yinst_path.proofs.cutting.after_spaces.Given as goal

abbrev pub invariant-loop-more : goal.invariant-loop-more
invariant-loop-more l = (after_spaces l.rest ≡ after_spaces l.fn.text) × IsUtf8 l.rest

abbrev pub decreases-loop-more : goal.decreases-loop-more
decreases-loop-more l = length l.rest
