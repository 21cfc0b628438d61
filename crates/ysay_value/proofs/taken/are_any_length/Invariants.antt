use Rattle.std.proofs.Common.{◌≡◌, drop}
use Rattle.std.specs.List.{list_all}
use Rattle.ysay_value.specs.TakenWords.{is_any_length}
use Rattle.ysay_value.proofs.taken.are_any_length.Given as goal

abbrev pub invariant-loop-part : goal.invariant-loop-part
invariant-loop-part l = list_all is_any_length (drop l.part-index l.parts) ≡ list_all is_any_length l.parts
