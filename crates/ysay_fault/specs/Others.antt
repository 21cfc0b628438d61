-- Of keys that may be missing, the first other one that is the same.
use Rattle.std.specs.Prelude.{ℕ, ◌+◌, ◌==◌, ◌&&◌, Bool, not, List, [], ◌∷◌, Option, Some, None, option_and_then, option_map, if◌then◌else◌, false}
use Rattle.std.specs.Option.{option_map_or, option_or}
use Rattle.ysay_fault.specs.declared.others.FirstTwo.{FirstTwo}

-- the position of the first key but the one at a position that is the same as one; the first of them has the second position
abbrev pub first_same : {A : Type 0} → (A → A → Bool) → ℕ → ℕ → A → List (Option A) → Option ℕ
first_same same own position x [] = None
first_same same own position x (key ∷ keys) = if not (position == own) && option_map_or (same x) key false
    then Some position else first_same same own (position + 1) x keys

-- that of each of the last keys, of which the first has a position
abbrev pub others_from : {A : Type 0} → (A → A → Bool) → List (Option A) → ℕ → List (Option A) → List (Option ℕ)
others_from same all own [] = []
others_from same all own (key ∷ keys) = option_and_then (λ x. first_same same own 1 x all) key ∷ others_from same all (own + 1) keys

-- the positions of the first two keys that are the same as one
abbrev pub first_two : {A : Type 0} → (A → A → Bool) → A → List (Option A) → Option FirstTwo
first_two same x keys = option_map (λ first. record { first = first; second = first_same same first 1 x keys }) (first_same same 0 1 x keys)

-- with that of one more
abbrev pub with_position : Option FirstTwo → ℕ → FirstTwo
with_position None position = record { first = position; second = None }
with_position (Some two) position = record { first = two.first; second = option_or two.second (Some position) }

abbrev pub first_but : ℕ → FirstTwo → Option ℕ
first_but own two = if two.first == own then two.second else Some two.first
