use Rattle.std.proofs.Common.{◌≡◌, drop, map}
use Rattle.std.specs.List.{list_any}
use Rattle.yspec.specs.text.Text.{is_text}
use Rattle.ysay_text.specs.Word.{is_unread}
use Rattle.ysay_text.proofs.word.is_unread.Given as goal

abbrev pub invariant-loop-unread : goal.invariant-loop-unread
invariant-loop-unread l = list_any (is_text l.word) (map (λ w. w.now) (drop l.unread-index l.unread-items)) ≡ is_unread l.word
