-- Configuration below state, by the tests of the code.
use Rattle.std.proofs.Common.{◌≡◌, Bool, true, false, not, ◌&&◌, ◌||◌, refl, sym, ap, ap₂, ◌∙◌}

pub not_not : (b : Bool) → b ≡ not (not b)
not_not true = refl
not_not false = refl

pub below_state : (config found above lacks : Bool) → config ≡ true → found ≡ false → found ≡ above → not found ≡ (config && (not above || lacks))
below_state config found above lacks on off is = ap not off ∙ sym (ap₂ (λ c a. c && (not a || lacks)) on (sym is ∙ off))

pub below_config : (config found above lacks answer : Bool) → config ≡ true → found ≡ true → found ≡ above → answer ≡ lacks
    → answer ≡ (config && (not above || lacks))
below_config config found above lacks answer on up is so = so ∙ sym (ap₂ (λ c a. c && (not a || lacks)) on (sym is ∙ up))
