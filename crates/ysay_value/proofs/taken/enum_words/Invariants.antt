use Rattle.std.proofs.Common.{◌≡◌, ◌++◌, map, string_bytes}
use Rattle.serde_json.specs.Data.{string}
use Rattle.serde_json.specs.Written.{compact_text}
use Rattle.yspec.specs.types.Names.{Assigned}
use Rattle.ytype_numbers.specs.Tables.{assigned}
use Rattle.ysay_value.proofs.taken.enum_words.Given as goal

-- the texts so far, and those of the names that are left
abbrev pub invariant-loop-name : goal.invariant-loop-name
invariant-loop-name l = map string_bytes l.texts.items ++ map (λ (a : Assigned). compact_text (string a.name)) (assigned l.name-iterator)
    ≡ map (λ (a : Assigned). compact_text (string a.name)) l.names
