-- Lines by number, and texts that are shown.
use Rattle.std.proofs.Common.{◌≡◌, ℕ, zero, suc, ◌+◌, ◌-◌, ◌<◌, ◌≤◌, Bool, true, false, List, [], ◌∷◌, length, take, refl, sym, ap, ◌∙◌, arith}
use Rattle.std.specs.Str.{IsUtf8, is_utf8}
use Rattle.std.proofs.lemmas.Str.{IsUtf8-from_is_utf8, is_utf8-from_IsUtf8}
use Rattle.std.specs.Prelude.{◌++◌, nat_le}
use Rattle.std.specs.List.{flat_map, list_all}
use Rattle.std.specs.Str.{chars, encode_utf8_all}
use Rattle.ysay_text.specs.Line.{behind_lines, ended, escaped, first_line, is_shown, other_lines, shown, shown_limit}

pub one_more : (n at : ℕ) (bytes : List ℕ) → at < n → behind_lines (n - at) bytes ≡ behind_lines (n - (at + 1)) (other_lines bytes)
one_more n at bytes h = by (n - at) refl
  where
    by : (k : ℕ) → n - at ≡ k → behind_lines (n - at) bytes ≡ behind_lines (n - (at + 1)) (other_lines bytes)
    by zero e = absurd (omega (arith, e, h))
    by (suc k) e = let less : n - (at + 1) ≡ k = omega (arith, e) in ap (λ (m : ℕ). behind_lines m bytes) e ∙ ap (λ (m : ℕ). behind_lines m (other_lines bytes)) (sym less)

pub all_taken : {A : Type 0} (n : ℕ) (xs : List A) → length xs ≤ n → xs ≡ take n xs
all_taken zero [] h = refl
all_taken (suc n) [] h = refl
all_taken zero (x ∷ xs) h = absurd (omega (arith, h))
all_taken (suc n) (x ∷ xs) h = ap (λ ys. x ∷ ys) (all_taken n xs (omega (arith, h)))

pub no_text : (t : List ℕ) → ¬ (IsUtf8 t) → is_utf8 t ≡ false
no_text t other = by (is_utf8 t) refl
  where
    by : (b : Bool) → is_utf8 t ≡ b → is_utf8 t ≡ false
    by true e = absurd (other (IsUtf8-from_is_utf8 t e))
    by false e = e

pub no_text_shown : (t : List ℕ) → ¬ (IsUtf8 t)
    → flat_map escaped (take shown_limit t) ++ ended (nat_le (length t) shown_limit) ≡ shown t
no_text_shown t other = rw (no_text t other) refl

pub unshown : (t : List ℕ) → IsUtf8 t → list_all is_shown (chars t) ≡ false
    → flat_map escaped (take shown_limit t) ++ ended (nat_le (length t) shown_limit) ≡ shown t
unshown t is none = rw (is_utf8-from_IsUtf8 t is, none) refl

pub shown_as_it_is : (t : List ℕ) → IsUtf8 t → list_all is_shown (chars t) ≡ true
    → encode_utf8_all (take shown_limit (chars t)) ++ ended (nat_le (length (chars t)) shown_limit) ≡ shown t
shown_as_it_is t is all = rw (is_utf8-from_IsUtf8 t is, all) refl

none_behind : (n : ℕ) → behind_lines n [] ≡ []
none_behind zero = refl
none_behind (suc n) = none_behind n

-- nothing stands behind the end
pub at_end : (n : ℕ) (rest whole : List ℕ) → length rest ≡ 0 → behind_lines n rest ≡ whole → rest ≡ first_line whole
at_end n [] whole none is = ap first_line (sym (none_behind n) ∙ is)
at_end n (x ∷ rest) whole none is = absurd (omega (arith, none))
