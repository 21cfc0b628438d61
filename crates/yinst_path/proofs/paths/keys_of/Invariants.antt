use Rattle.std.proofs.Common.{◌≡◌, ◌++◌, length, IsUtf8, None, option_map}
use Rattle.yspec.specs.edit.EditText.{keys_of, parts_at, close_bracket}
use Rattle.yinst_path.specs.EditView.{keys_view}
use Rattle.yinst_path.proofs.paths.keys_of.Given as goal

abbrev pub invariant-loop-part : goal.invariant-loop-part
invariant-loop-part l = (option_map (λ more. keys_view l.keys.items ++ more) (keys_of (parts_at close_bracket None l.rest))
    ≡ keys_of (parts_at close_bracket None l.fn.text)) × IsUtf8 l.rest

abbrev pub decreases-loop-part : goal.decreases-loop-part
decreases-loop-part l = length l.rest
