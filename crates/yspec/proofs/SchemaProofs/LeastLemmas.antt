-- The least of two lists is that of the second, from the least of the first on.
use Rattle.std.proofs.Common.{◌≡◌, List, [], ◌∷◌, ◌++◌, Option, Some, refl}
use Rattle.yspec.specs.schema.Breaks.{Break, least_from, lesser}

pub least_of_both : (so_far : Option Break) (xs ys : List Break) → least_from so_far (xs ++ ys) ≡ least_from (least_from so_far xs) ys
least_of_both so_far [] ys = refl
least_of_both so_far (x ∷ xs) ys = least_of_both (Some (lesser so_far x)) xs ys
