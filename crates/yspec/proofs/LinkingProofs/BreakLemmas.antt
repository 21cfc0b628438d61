-- Of lists of broken rules: nothing is told where none of them is broken.
use Rattle.std.proofs.Common.{◌≡◌, ℕ, Bool, true, false, List, [], ◌∷◌, ◌++◌, Option, Some, None, refl}
use Rattle.yspec.specs.schema.Breaks.{Break, broken, when, least_from, or_told}

pub none_first : {A : Type 0} (xs ys : List A) → xs ++ ys ≡ [] → xs ≡ []
none_first [] ys e = refl
none_first (x ∷ xs) ys e = absurd cc

pub none_second : {A : Type 0} (xs ys : List A) → xs ++ ys ≡ [] → ys ≡ []
none_second [] ys e = e
none_second (x ∷ xs) ys e = absurd cc

pub unbroken : (b : Bool) (code m line : ℕ) → when b (broken code m line) ≡ [] → b ≡ false
unbroken true code m line e = absurd cc
unbroken false code m line e = refl

pub some_told : (bs : List Break) (so_far : Break) → least_from (Some so_far) bs ≡ None → ⊥
some_told [] so_far e = let no : ⊥ = cc in no
some_told (b ∷ bs) so_far e = some_told bs _ e

pub none_told : (phase : List Break) (later : Option Break) → or_told phase later ≡ None → (phase ≡ []) × (later ≡ None)
none_told [] later e = (refl, e)
none_told (b ∷ bs) later e = absurd (some_told bs b e)
