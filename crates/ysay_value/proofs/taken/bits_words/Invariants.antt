use Rattle.std.proofs.Common.{◌≡◌, ◌++◌, map, string_bytes}
use Rattle.yspec.specs.types.Names.{Assigned}
use Rattle.ytype_numbers.specs.Tables.{assigned}
use Rattle.ysay_value.proofs.taken.bits_words.Given as goal

-- the names so far, and those that are left
abbrev pub invariant-loop-name : goal.invariant-loop-name
invariant-loop-name l = map string_bytes l.texts.items ++ map (λ (a : Assigned). a.name) (assigned l.name-iterator)
    ≡ map (λ (a : Assigned). a.name) l.names
