use Rattle.std.proofs.Common.{◌≡◌}
use Rattle.ytype_numbers.specs.Tables.{assigned, number_named}
use Rattle.ytype_numbers.proofs.names.number_among.Given as goal

abbrev pub invariant-loop-number : goal.invariant-loop-number
invariant-loop-number l = number_named l.text (assigned l.number-iterator) ≡ number_named l.text (assigned l.by_number.entries)
