use Rattle.std.proofs.Common.{◌≡◌, ◌++◌, drop, map, string_bytes}
use Rattle.ysay_refusal.proofs.member.texts_of.Given as goal

abbrev pub invariant-loop-name : goal.invariant-loop-name
invariant-loop-name l = map (λ t. t.now) l.texts.items ++ map string_bytes (drop l.name-index l.names) ≡ map string_bytes l.names
