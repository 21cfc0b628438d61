-- Restrictions of values: ranges and lengths, which are sets of whole numbers, and how one is cut down by another (RFC 7950,
-- 9.2.4, 9.3.4, 9.4.4); patterns (9.4.5).
use Rattle.std.specs.Prelude.{ℕ, ◌-◌, ◌^◌, ℤ, pos, negsuc, ◌+ℤ◌, ◌*ℤ◌, int_le, int_lt, Bool, true, false, ◌&&◌, ◌||◌, List, [], ◌∷◌, Option, Some, None, option_map, option_and_then, if◌then◌else◌, nat_le}
use Rattle.std.specs.List.{list_any, list_all}
use Rattle.yspec.specs.text.Text.{Text}

-- the numbers from one to another
pub record Part : Type 0 where
  pub low : ℤ
  pub high : ℤ

-- what a restriction says of a value that it excludes (RFC 7950, 7.5.4.1 and 7.5.4.2)
pub record ErrorText : Type 0 where
  pub message : Option Text
  pub app_tag : Option Text

-- what a restriction asks of a value
pub data Test : Type 0 where
  -- a range or length
  within : List Part → Test
  -- a pattern, as it is written, and whether `invert-match` takes the other texts (RFC 7950, 9.4.6)
  matching : Text → Bool → Test

pub record Limit : Type 0 where
  pub test : Test
  pub error : ErrorText

abbrev pub lies_in : ℤ → Part → Bool
lies_in z p = int_le p.low z && int_le z p.high

abbrev pub holds : List Part → ℤ → Bool
holds parts z = list_any (lies_in z) parts

-- ---- as a module writes it

-- `min`, `max`, or a number in units of its last digit, with how many digits it has after its point (none without one)
pub data Bound : Type 0 where
  least : Bound
  greatest : Bound
  number : ℤ → ℕ → Bound

-- a part; one of a single bound has it twice
pub record Span : Type 0 where
  pub first : Bound
  pub last : Bound

-- no type has a number as far from 0
abbrev pub is_near : ℤ → Bool
is_near z = int_le (negsuc (2 ^ 64 - 1)) z && int_le z (pos (2 ^ 64))

-- the number of a bound in units of a type's last digit, where it has no digit more; `min` and `max` are the ends of
-- the restricted type
abbrev pub bound_in : Part → ℕ → Bound → Option ℤ
bound_in ends digits least = Some ends.low
bound_in ends digits greatest = Some ends.high
bound_in ends digits (number z places) =
    if is_near z && nat_le places digits then Some (z *ℤ pos (10 ^ (digits - places))) else None

abbrev part_from : ℤ → Option ℤ → Option Part
part_from low high = option_map (λ z. record { low = low; high = z }) high

abbrev pub part_in : Part → ℕ → Span → Option Part
part_in ends digits span =
    option_and_then (λ z. part_from z (bound_in ends digits span.last)) (bound_in ends digits span.first)

abbrev with_part : Option Part → Option (List Part) → Option (List Part)
with_part first others = option_and_then (λ p. option_map (λ ps. p ∷ ps) others) first

abbrev pub parts_in : Part → ℕ → List Span → Option (List Part)
parts_in ends digits [] = Some []
parts_in ends digits (span ∷ spans) = with_part (part_in ends digits span) (parts_in ends digits spans)

-- ---- what is a restriction of what

-- no part's first number is above its last, and each part is above the one before it
abbrev pub is_above : Part → Option ℤ → Bool
is_above p None = true
is_above p (Some before) = int_lt before p.low

abbrev pub is_ascending_from : Option ℤ → List Part → Bool
is_ascending_from before [] = true
is_ascending_from before (p ∷ ps) =
    int_le p.low p.high && (is_above p before && is_ascending_from (Some p.high) ps)

-- every number from one to another lies in ascending parts
abbrev pub is_covered : List Part → ℤ → ℤ → Bool
is_covered [] low high = false
is_covered (p ∷ ps) low high = if int_lt p.high low then is_covered ps low high
    else int_le p.low low && (int_le high p.high || is_covered ps (p.high +ℤ pos 1) high)

abbrev pub lies_within : List Part → List Part → Bool
lies_within inner outer = list_all (λ p. is_covered outer p.low p.high) inner

abbrev pub last_high : ℤ → List Part → ℤ
last_high high [] = high
last_high high (p ∷ ps) = last_high p.high ps

-- the least and the greatest number of ascending parts
abbrev pub ends_of : List Part → Part
ends_of [] = record { low = pos 0; high = pos 0 }
ends_of (p ∷ ps) = record { low = p.low; high = last_high p.high ps }

abbrev pub is_restriction : List Part → List Part → Bool
is_restriction [] outer = false
is_restriction (p ∷ ps) outer = is_ascending_from None (p ∷ ps) && lies_within (p ∷ ps) outer

abbrev pub restricting : List Part → List Part → Option (List Part)
restricting outer parts = if is_restriction parts outer then Some parts else None

-- the parts of a restriction of a set of numbers in units of a last digit, where it is one
abbrev pub restricted : List Part → ℕ → List Span → Option (List Part)
restricted outer digits spans = option_and_then (restricting outer) (parts_in (ends_of outer) digits spans)
