-- Words of the crate's contracts.
use Rattle.std.specs.Prelude.{ℕ, ℤ, List, map, pos, negsuc, ◌-◌, ◌^◌, ◌≤ℤ◌, min, Option, Some, None, option_map, option_and_then, if◌then◌else◌}
use Rattle.std.specs.Borrow.{Bor}
use Rattle.std.specs.Global.{Vec}
use Rattle.yspec.specs.text.Text.{Text}
use Rattle.yspec.specs.types.Names.{Assigned}
use Rattle.yspec.specs.types.Ranges.{Part, lies_in}
use Rattle.ytype_numbers.specs.declared.fault.NarrowFault.{NarrowFault}
use Rattle.ytype_numbers.specs.declared.fault.NarrowFault.TheVariants as narrow_fault

-- that a definition gives nothing is all that a fault tells; want of memory tells not even that
abbrev pub narrow_refusal : NarrowFault → Option (Unit {0})
narrow_refusal narrow_fault.Refused = Some tt
narrow_refusal narrow_fault.Memory = None

-- where a value stands for itself
abbrev pub same : {A : Type 0} → A → A
same x = x

-- a magnitude, or 2 ^ 64 for a greater one
abbrev pub capped : Option ℕ → Option ℕ
capped o = option_map (λ n. min n (2 ^ 64)) o

-- a number, where it lies in a part
abbrev pub kept_in : Part → Option ℤ → Option ℤ
kept_in numbers o = option_and_then (λ z. if lies_in z numbers then Some z else None) o

-- the numbers of a part are less than 2 ^ 64 away from 0
pub record IsNarrow (numbers : Part) : Type 0 where
  pub low : negsuc (2 ^ 64 - 2) ≤ℤ numbers.low
  pub high : numbers.high ≤ℤ pos (2 ^ 64 - 1)

-- the numbers of a part have 64 bits
pub record FitsWord (numbers : Part) : Type 0 where
  pub low : negsuc (2 ^ 63 - 1) ≤ℤ numbers.low
  pub high : numbers.high ≤ℤ pos (2 ^ 63 - 1)

abbrev pub named : Text → ℤ → Assigned
named name number = record { name = name; number = number }

abbrev pub items_of : {A : Type 0} → Vec A → List A
items_of v = v.items

abbrev pub words_in : List (Bor Text) → List Text
words_in words = map (λ w. w.now) words
