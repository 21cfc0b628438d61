-- Numbers from 2 ^ 64 on may be taken for 2 ^ 64, which lies in no row of numbers that is asked for.
use Rattle.std.proofs.Common.{◌≡◌, ℕ, ◌^◌, ◌<◌, ◌&&◌, Bool, true, false, cond, min, Option, Some, None, refl, sym, ap, ◌∙◌, arith, inl, inr}
use Rattle.std.specs.Prelude.{option_and_then, nat_le}
use Rattle.std.proofs.lemmas.Bool.{cases_lt}
use Rattle.std.proofs.lemmas.Bool.Decides.{nat_tests}
use Rattle.ytype_numbers.specs.Words.{capped}
use Rattle.yspec.specs.linking.Arguments.{between}

above_both : (low high n : ℕ) → high < n → between low high n ≡ None
above_both low high n h = go (nat_le low n) (nat_le n high) (grind (arith, nat_tests))
  where
    go : (a b : Bool) → b ≡ false → cond (a && b) (Some n) None ≡ None
    go true b e = rw e refl
    go false b e = refl

pub between_capped : (low high : ℕ) (o : Option ℕ) → high < 2 ^ 64 → option_and_then (between low high) (capped o) ≡ option_and_then (between low high) o
between_capped low high None h = refl
between_capped low high (Some n) h = elim (cases_lt n (2 ^ 64)) [
  | inl lt ↦ let e : min n (2 ^ 64) ≡ n = omega arith in ap (between low high) e
  | inr le ↦ let e : min n (2 ^ 64) ≡ 2 ^ 64 = omega arith in
      ap (between low high) e ∙ above_both low high (2 ^ 64) h ∙ sym (above_both low high n (omega (arith, h, le)))
]
