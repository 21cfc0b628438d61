use Rattle.std.proofs.Common.{◌≡◌, ◌++◌, drop, map, string_bytes}
use Rattle.ytype.specs.View.{base_of}
use Rattle.ysay_value.specs.TakenWords.{part_words}
use Rattle.ysay_value.proofs.taken.numbers_words.Given as goal

-- the texts so far, and those of the parts that are left
abbrev pub invariant-loop-part : goal.invariant-loop-part
invariant-loop-part l = map string_bytes l.texts.items ++ map (part_words (base_of l.base)) (drop l.part-index l.parts)
    ≡ map (part_words (base_of l.base)) l.parts
