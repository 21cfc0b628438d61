-- What is told of several phases.
use Rattle.std.proofs.Common.{◌≡◌, List, [], ◌∷◌, ◌++◌, Option, Some, None, refl, sym}
use Rattle.yspec.specs.schema.Breaks.{Break, least_from, or_told, first_broken}
use Rattle.yspec.proofs.LinkingProofs.BreakLemmas.{some_told}

-- the first phase that has one tells it
pub told_here : (phase : List Break) (later : Option Break) (b : Break) → Some b ≡ least_from None phase → Some b ≡ or_told phase later
told_here [] later b e = absurd cc
told_here (x ∷ xs) later b e = e

pub told_later : (phase : List Break) (later : Option Break) → None ≡ least_from None phase → or_told phase later ≡ later
told_later [] later none = refl
told_later (x ∷ xs) later none = absurd (some_told xs x (sym none))

pub told_last : (phase : List Break) → or_told phase None ≡ least_from None phase
told_last [] = refl
told_last (x ∷ xs) = refl

-- phases in two parts
pub told_first : (first others : List (List Break)) (b : Break) → Some b ≡ first_broken first → Some b ≡ first_broken (first ++ others)
told_first [] others b e = absurd cc
told_first ([] ∷ phases) others b e = told_first phases others b e
told_first ((x ∷ xs) ∷ phases) others b e = e

pub told_then : (first others : List (List Break)) → None ≡ first_broken first → first_broken (first ++ others) ≡ first_broken others
told_then [] others none = refl
told_then ([] ∷ phases) others none = told_then phases others none
told_then ((x ∷ xs) ∷ phases) others none = absurd (some_told xs x (sym none))
