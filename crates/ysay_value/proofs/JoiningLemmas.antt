-- Texts joined, each by what is seen of it.
use Rattle.std.proofs.Common.{◌≡◌, List, [], ◌∷◌, ◌++◌, map, refl, ap}
use Rattle.std.specs.List.{flat_map, join_by}
use Rattle.yspec.specs.text.Text.{Text}

module _ {X : Type 0} (f : X → Text) (separator : Text) where
  others_joined : (xs : List X) → flat_map (λ y. separator ++ f y) xs ≡ flat_map (λ y. separator ++ y) (map f xs)
  others_joined [] = refl
  others_joined (x ∷ xs) = ap (λ t. (separator ++ f x) ++ t) (others_joined xs)

  pub joined : (xs : List X) → join_by f separator xs ≡ join_by (λ (t : Text). t) separator (map f xs)
  joined [] = refl
  joined (x ∷ xs) = ap (λ t. f x ++ t) (others_joined xs)
