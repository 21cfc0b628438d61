-- A text that is spelled by two.
use Rattle.std.proofs.Common.{◌≡◌, ℕ, suc, ◌+◌, ◌<◌, ◌≤◌, Bool, true, false, List, [], ◌∷◌, ◌++◌, length, take, drop, refl, sym, ap, ap₂, ◌∙◌, arith}
use Rattle.std.specs.Prelude.{nat_eq, ◌&&◌}
use Rattle.std.specs.Str.{bytes_eq}
use Rattle.std.specs.List.{IsSplitAt}

among_both : (e p q : Bool) → (e && (p && q)) ≡ ((e && p) && q)
among_both true p q = refl
among_both false p q = refl

pub parted_eq : (a b c : List ℕ) → length a ≤ length c → bytes_eq (a ++ b) c ≡ (bytes_eq a (take (length a) c) && bytes_eq b (drop (length a) c))
parted_eq [] b c fits = refl
parted_eq (x ∷ a) b [] fits = absurd (omega (arith, fits))
parted_eq (x ∷ a) b (y ∷ c) fits = ap (λ r. nat_eq x y && r) (parted_eq a b c (omega (arith, fits)))
    ∙ among_both (nat_eq x y) (bytes_eq a (take (length a) c)) (bytes_eq b (drop (length a) c))

pub short_eq : (a b c : List ℕ) → length c < length a → bytes_eq (a ++ b) c ≡ false
short_eq [] b c short = absurd (omega (arith, short))
short_eq (x ∷ a) b [] short = refl
short_eq (x ∷ a) b (y ∷ c) short = ap (λ r. nat_eq x y && r) (short_eq a b c (omega (arith, short))) ∙ never (nat_eq x y)
  where
    never : (e : Bool) → (e && false) ≡ false
    never true = refl
    never false = refl

-- where a text is split at the length of the first, both parts have to be the two
pub spelled_by : (front back code whole first rest : List ℕ) (n : ℕ) → whole ≡ code → n ≡ length front → IsSplitAt whole n first rest
    → bytes_eq (front ++ back) code ≡ (bytes_eq front first && bytes_eq back rest)
spelled_by front back code whole first rest n e m is =
    let fits : length front ≤ length code = rw (← e, ← m) is.0 in
    parted_eq front back code fits
    ∙ ap₂ (λ p q. bytes_eq front p && bytes_eq back q) (sym (is.1 ∙ ap₂ take m e)) (sym (is.2 ∙ ap₂ drop m e))
