use Rattle.std.proofs.Common.{◌≡◌, ◌++◌, drop, map, take, string_bytes}
use Rattle.serde_json.specs.Data.{string}
use Rattle.serde_json.specs.Written.{compact_text}
use Rattle.ysay_value.proofs.identities.first_names.Given as goal

-- the texts so far, and those of the names that are left
abbrev pub invariant-loop-name : goal.invariant-loop-name
invariant-loop-name l = map string_bytes l.texts.items ++ map (λ n. compact_text (string n.now)) (drop l.name-index l.name-items)
    ≡ map (λ n. compact_text (string n.now)) (take 20 l.names)
