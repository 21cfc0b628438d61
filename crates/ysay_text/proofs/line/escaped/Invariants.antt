use Rattle.std.proofs.Common.{◌≡◌, ◌++◌, drop, string_bytes}
use Rattle.std.specs.List.{flat_map}
use Rattle.ysay_text.specs.Line.{escaped}
use Rattle.ysay_text.proofs.line.escaped.Given as goal

abbrev pub invariant-loop-byte : goal.invariant-loop-byte
invariant-loop-byte l = string_bytes l.text ++ flat_map escaped (drop l.byte-index l.bytes) ≡ flat_map escaped l.bytes
