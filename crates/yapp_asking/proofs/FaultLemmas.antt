-- Faults of which some are kept.
use Rattle.std.proofs.Common.{◌≡◌, Bool, true, false, List, [], ◌∷◌, map, cond, refl, ap}
use Rattle.std.specs.List.{filter}

-- those that pass, as they are seen
pub kept_views : {A B : Type 0} (see : A → B) (test : B → Bool) (xs : List A) → map see (filter (λ x. test (see x)) xs) ≡ filter test (map see xs)
kept_views see test [] = refl
kept_views {A} {B} see test (x ∷ xs) = by (test (see x)) (kept_views see test xs)
  where
    by : (b : Bool) → map see (filter (λ x. test (see x)) xs) ≡ filter test (map see xs)
        → map see (cond b (x ∷ filter (λ x. test (see x)) xs) (filter (λ x. test (see x)) xs)) ≡ cond b (see x ∷ filter test (map see xs)) (filter test (map see xs))
    by true h = ap (λ ys. see x ∷ ys) h
    by false h = h
