-- What lies in a table once a node is closed.
use Rattle.std.proofs.Common.{true, false, ◌≡◌, ℕ, zero, suc, ◌-◌, ◌≤◌, ◌<◌, List, [], ◌∷◌, ◌++◌, length, slice_set, Some, refl, sym, ap, ap₂, ◌∙◌, arith}
use Rattle.std.specs.Prelude.{slice_get}
use Rattle.std.proofs.lemmas.List.{length-map}
use Rattle.std.proofs.lemmas.Bool.{cases_lt}
use mathlib.Core.Logic.{⊎_elim}
use Rattle.ybase_preorder.specs.declared.slot.Slot.{Slot}
use Rattle.ybase_preorder.specs.Layout.{Place, place_of, laid, closed}

module _ {L : Type 0} where
  pub closed_row : (slots : List (Slot L)) (n b : ℕ) (r : Slot L) → slice_get slots n ≡ Some r → b ≡ length slots - n - 1
      → laid (slice_set slots n (record { parent = r.parent; label = r.label; below = b })) ≡ closed n (laid slots)
  closed_row [] n b r e h = absurd cc
  closed_row (x ∷ slots) zero b r e h =
      let same : x ≡ r = cc in
      ap₂ (λ y m. record { parent = y.parent; label = y.label; below = m } ∷ laid slots) (sym same)
      (omega (arith, h) ∙ sym (length-map slots place_of))
  closed_row (x ∷ slots) (suc n) b r e h = ap (λ ps. place_of x ∷ ps) (closed_row slots n b r e (omega (arith, h)))

  pub closed_past : (slots : List (Slot L)) (n : ℕ) → length slots ≤ n → laid slots ≡ closed n (laid slots)
  closed_past [] n h = refl
  closed_past (x ∷ slots) zero h = absurd (omega arith)
  closed_past (x ∷ slots) (suc n) h = ap (λ ps. place_of x ∷ ps) (closed_past slots n (omega arith))

  -- a node whose slots below it lie behind it
  pub closed_at : (ps qs : List (Place L)) (p : Place L) (n : ℕ) → n ≡ length ps
      → closed n (ps ++ (p ∷ qs)) ≡ ps ++ (record { parent = p.parent; label = p.label; below = length qs } ∷ qs)
  closed_at [] qs p n h = ap (λ m. closed m (p ∷ qs)) h
  closed_at (x ∷ ps) qs p n h = ap (λ m. closed m (x ∷ (ps ++ (p ∷ qs)))) h ∙ ap (λ rest. x ∷ rest) (closed_at ps qs p (length ps) refl)

pub not_within : (i n : ℕ) → (i < n → false ≡ true) → n ≤ i
not_within i n other = ⊎_elim (λ l. let e = other l in absurd cc) (λ g. g) (cases_lt i n)
