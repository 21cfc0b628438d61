use Rattle.std.proofs.Common.{◌≡◌, drop}
use Rattle.std.specs.List.{list_any}
use Rattle.ysay_value.specs.Values.{breaks_quotes}
use Rattle.ysay_value.proofs.values.breaks_quotes.Given as goal

abbrev pub invariant-loop-byte : goal.invariant-loop-byte
invariant-loop-byte l = list_any breaks_quotes (drop l.byte-index l.text) ≡ list_any breaks_quotes l.text
