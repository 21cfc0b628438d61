use Rattle.std.proofs.Common.{◌≡◌, ◌+◌, ◌≤◌, ◌++◌, drop}
use Rattle.json.specs.Lex.{between}
use Rattle.ysay_lines.specs.Found.{mode_of}
use Rattle.ysay_lines.specs.Lines.{at_line}
use Rattle.ysay_lines.proofs.PlaceLemmas.{places_from}
use Rattle.ysay_lines.proofs.place.token_places.Given as goal

-- what was found so far and what is left is all
abbrev pub invariant-loop-byte : goal.invariant-loop-byte
invariant-loop-byte l =
    (l.places.items ++ places_from (mode_of l.mode) l.here (drop l.byte-index l.bytes) ≡ places_from between (at_line 1 1) l.bytes)
    × (l.here.line ≤ l.byte-index + 1) × (l.here.column ≤ l.byte-index + 1)
