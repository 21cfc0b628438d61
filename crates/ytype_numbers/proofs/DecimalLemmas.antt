-- Digits after a point, from the first on.
use Rattle.std.proofs.Common.{◌≡◌, ℕ, zero, suc, ◌+◌, ◌-◌, ◌*◌, ◌/◌, ◌%◌, ◌^◌, ◌<◌, false, eqb, [], ◌∷◌, refl, ap, ◌∙◌, arith}
use Rattle.std.proofs.Math.Nat.{pow-succ', one-le-pow, div-lt_iff_lt-mul, mod-lt}
use Rattle.std.proofs.lemmas.Bool.Decides.{nat_tests}
use Rattle.yspec.specs.types.Numerals.{fraction_digits, or_zero}

pub ten_pos : (d : ℕ) → 0 < 10 ^ d
ten_pos d = let ten : 0 < 10 = omega arith in let h = one-le-pow d 10 ten in omega (arith, h)

pub digit_fits : (n d : ℕ) → 0 < d → n < 10 ^ d → n / 10 ^ (d - 1) < 10
digit_fits n d pos h =
    let k : d ≡ suc (d - 1) = omega arith in
    let w : 10 ^ d ≡ 10 * 10 ^ (d - 1) = ap (λ (x : ℕ). 10 ^ x) k ∙ pow-succ' 10 (d - 1) in
    (div-lt_iff_lt-mul (ten_pos (d - 1))).1 (omega (arith, w, h))

pub rest_fits : (n d : ℕ) → n % 10 ^ d < 10 ^ d
rest_fits n d = mod-lt n (ten_pos d)

not_zero : (n : ℕ) → 0 < n → eqb n 0 ≡ false
not_zero n some = grind (arith, nat_tests)

pub fraction_step : (d n : ℕ) → 0 < d → 0 < n → fraction_digits d n ≡ (48 + n / 10 ^ (d - 1)) ∷ fraction_digits (d - 1) (n % 10 ^ (d - 1))
fraction_step zero n pos some = absurd (omega arith)
fraction_step (suc d) n pos some = let e : suc d - 1 ≡ d = omega arith in rw (not_zero n some, e) refl

pub fraction_none : (d : ℕ) → fraction_digits d 0 ≡ []
fraction_none zero = refl
fraction_none (suc d) = refl

-- where there is a digit, none need be put in its place
pub fraction_some : (d n : ℕ) → 0 < n → n < 10 ^ d → or_zero (fraction_digits d n) ≡ fraction_digits d n
fraction_some zero n some h = absurd (omega (arith, h))
fraction_some (suc d) n some h = let e = not_zero n some in rw e refl

pub ruleset fractions = (ten_pos, digit_fits, rest_fits, fraction_step, fraction_none, fraction_some)
