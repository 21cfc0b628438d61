-- Parts that cover alike from a number on, one after another.
use Rattle.std.proofs.Common.{◌≡◌, ℕ, ◌+◌, ◌<◌, ℤ, ◌&&◌, ◌||◌, pos, ◌+ℤ◌, true, false, cond, List, [], ◌∷◌, length, get_or, drop, Some, sym, subst, ap, ◌∙◌, arith}
use Rattle.std.proofs.lemmas.Bool.{and_parts}
use Rattle.std.proofs.lemmas.Int.{ints}
use Rattle.std.proofs.lemmas.List.{drop_more}
use Rattle.std.specs.Prelude.{int_lt, int_le}
use Rattle.yspec.specs.types.Ranges.{Part, is_above, is_covered, is_ascending_from, lies_within}
use Rattle.ytype_numbers.specs.Covering.{Ascending, CoverAlike, CoverAlikeFrom}

pub below_both : (high from low : ℤ) → int_le from high ≡ false → int_lt low from ≡ false → int_lt high low ≡ true
below_both high from low below behind = grind (arith, ints, below, behind)

-- what ends below a number covers nothing from there on
pub without_first : (from : ℤ) (p : Part) (ps all : List Part) → int_le from p.high ≡ false → CoverAlike from (p ∷ ps) all → CoverAlike from ps all
without_first from p ps all below alike low high behind =
    sym (ap (λ b. cond b (is_covered ps low high) (int_le p.low low && (int_le high p.high || is_covered ps (p.high +ℤ pos 1) high))) (below_both p.high from low below behind)) ∙ alike low high behind

pub alike_both : (from : ℤ) (some more all : List Part) → CoverAlike from some more → CoverAlike from more all → CoverAlike from some all
alike_both from some more all first then low high behind = first low high behind ∙ then low high behind

later : (p q : Part) (x : ℤ) → int_le p.low p.high ≡ true → int_lt p.high q.low ≡ true → int_lt x q.low ≡ false → int_lt x p.low ≡ false
later p q x within above behind = grind (arith, ints, within, above, behind)

-- the same of the parts behind a first one
pub behind_first : (p : Part) (ps some all : List Part) → Ascending (p ∷ ps) → CoverAlike p.low some all → CoverAlikeFrom ps some all
behind_first p [] some all ascending alike = tt
behind_first p (q ∷ qs) some all ascending alike = λ low high behind.
    let own = and_parts (int_le p.low p.high) (is_above p ascending.0 && is_ascending_from (Some p.high) (q ∷ qs)) ascending.1 in
    let more = and_parts (is_above p ascending.0) (is_ascending_from (Some p.high) (q ∷ qs)) own.1 in
    let next = and_parts (int_le q.low q.high) (int_lt p.high q.low && is_ascending_from (Some q.high) qs) more.1 in
    let above = and_parts (int_lt p.high q.low) (is_ascending_from (Some q.high) qs) next.1 in
    alike low high (later p q low own.0 above.0 behind)

pub ascending_behind : (p : Part) (ps : List Part) → Ascending (p ∷ ps) → Ascending ps
ascending_behind p ps ascending =
    let own = and_parts (int_le p.low p.high) (is_above p ascending.0 && is_ascending_from (Some p.high) ps) ascending.1 in
    (Some p.high, (and_parts (is_above p ascending.0) (is_ascending_from (Some p.high) ps) own.1).1)

-- ---- one part of ascending ones, with what is left of those that may cover it

pub next_rest : (p : Part) (ps some all : List Part) → CoverAlike p.low some all → is_covered some p.low p.high ≡ true
    → lies_within (p ∷ ps) all ≡ lies_within ps all
next_rest p ps some all alike covered =
    ap (λ b. b && lies_within ps all) (sym (alike p.low p.high (itself p.low)) ∙ covered)
  where
    itself : (z : ℤ) → int_lt z z ≡ false
    itself z = grind (arith, ints)

of_first : (p : Part) (ps l some all : List Part) → l ≡ p ∷ ps → CoverAlikeFrom l some all → CoverAlike p.low some all
of_first p ps l some all is left = subst (λ m. CoverAlikeFrom m some all) is left

module _ (whole : List Part) (i : ℕ) (p : Part) (some more all : List Part) (within : i < length whole) where
  abbrev ps : List Part
  ps = drop (i + 1) whole

  stands : drop i whole ≡ get_or whole i p ∷ ps
  stands = drop_more whole i p within

  module _ (is : p ≡ get_or whole i p) (left : CoverAlikeFrom (drop i whole) some all) (ascends : Ascending (drop i whole))
      (cut : CoverAlike p.low more some) (covered : is_covered more p.low p.high ≡ true) where
    first : drop i whole ≡ p ∷ ps
    first = stands ∙ ap (λ q. q ∷ ps) (sym is)

    ascending : Ascending (p ∷ ps)
    ascending = (ascends.0, ap (is_ascending_from ascends.0) (sym first) ∙ ascends.1)

    alike : CoverAlike p.low more all
    alike = alike_both p.low more some all cut (of_first p ps (drop i whole) some all first left)

    pub rest_behind : lies_within (drop i whole) all ≡ lies_within ps all
    rest_behind = ap (λ l. lies_within l all) first ∙ next_rest p ps more all alike covered

    pub ascending_next : Ascending ps
    ascending_next = ascending_behind p ps ascending

    pub alike_next : CoverAlikeFrom ps more all
    alike_next = behind_first p ps more all ascending alike
