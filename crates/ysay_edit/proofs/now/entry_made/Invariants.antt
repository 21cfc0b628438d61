use Rattle.std.proofs.Common.{◌≡◌, ◌++◌, drop, string_bytes}
use Rattle.yinst_path.specs.EditView.{keys_view}
use Rattle.ysay_edit.specs.Now.{entry_made, members_made}
use Rattle.ysay_edit.proofs.now.entry_made.Given as goal

-- the members so far, and those of the keys that are left behind what stands in front of them
abbrev pub invariant-loop-key : goal.invariant-loop-key
invariant-loop-key l = string_bytes l.text ++ members_made l.all_quoted l.is_first (keys_view (drop l.key-index l.keys))
    ≡ entry_made l.all_quoted (keys_view l.keys)
