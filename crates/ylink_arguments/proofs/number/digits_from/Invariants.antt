use Rattle.std.proofs.Common.{◌≡◌, ◌^◌, ◌≤◌, drop}
use Rattle.yspec.specs.types.Numerals.{digits_from}
use Rattle.ytype_numbers.specs.Words.{capped}
use Rattle.ylink_arguments.proofs.number.digits_from.Given as goal

abbrev pub invariant-digits : goal.invariant-digits
invariant-digits l = (l.number ≤ 2 ^ 64) × (capped (digits_from 10 l.number (drop l.byte-index l.digits)) ≡ capped (digits_from 10 l.fn.so_far l.digits))
