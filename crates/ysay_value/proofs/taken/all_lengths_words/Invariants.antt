use Rattle.std.proofs.Common.{◌≡◌, ◌++◌, drop, map, string_bytes}
use Rattle.ysay_value.specs.TakenWords.{length_words}
use Rattle.ysay_value.proofs.taken.all_lengths_words.Given as goal

-- the texts so far, and those of the parts that are left
abbrev pub invariant-loop-part : goal.invariant-loop-part
invariant-loop-part l = map string_bytes l.texts.items ++ map length_words (drop l.part-index l.parts) ≡ map length_words l.parts
