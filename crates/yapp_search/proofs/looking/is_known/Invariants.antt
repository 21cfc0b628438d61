use Rattle.std.proofs.Common.{◌≡◌, length, map, string_bytes}
use Rattle.std.specs.List.{list_any}
use Rattle.yspec.specs.text.Text.{is_text}
use Rattle.yapp_search.proofs.looking.is_known.Given as goal

abbrev pub invariant-loop-other : goal.invariant-loop-other
invariant-loop-other l = list_any (is_text l.name) (map string_bytes l.rest) ≡ list_any (is_text l.name) (map string_bytes l.known)

abbrev pub decreases-loop-other : goal.decreases-loop-other
decreases-loop-other l = length l.rest
