use Rattle.std.proofs.Common.{◌≡◌, ◌++◌, drop, map, string_bytes}
use Rattle.yspec.specs.types.Restriction.{members_of}
use Rattle.ysay_value.specs.TakenWords.{simple_words}
use Rattle.ysay_value.proofs.taken.taken_words.Given as goal

-- the texts so far, and those of the members that are left
abbrev pub invariant-loop-member : goal.invariant-loop-member
invariant-loop-member l = map string_bytes l.texts.items ++ map simple_words (drop l.member-index l.member-items)
    ≡ map simple_words (members_of l.value_type.shape)
