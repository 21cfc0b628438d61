-- Refusals of texts as the specification's.
use Rattle.std.specs.Prelude.{ℕ, Option, Some, None}
use Rattle.yspec.specs.text.Statement.{Slip}
use Rattle.ytext.specs.declared.fault.TextCode.{TextCode}
use Rattle.ytext.specs.declared.fault.TextCode.TheVariants.{L1, L2, L3, L4, L5, L6, L7, L8}
use Rattle.ytext.specs.declared.fault.TextFault.{TextFault}
use Rattle.ytext.specs.declared.fault.TextFault.TheVariants as fault

-- the number behind the `L`
abbrev pub number_of : TextCode → ℕ
number_of L1 = 1
number_of L2 = 2
number_of L3 = 3
number_of L4 = 4
number_of L5 = 5
number_of L6 = 6
number_of L7 = 7
number_of L8 = 8

-- the refusal that a fault tells; none of want of memory
abbrev pub told_by : TextFault → Option Slip
told_by (fault.Refused code line) = Some (record { code = number_of code; line = line })
told_by fault.Memory = None
