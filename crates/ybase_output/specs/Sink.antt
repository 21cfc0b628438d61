-- Words for what a sink has taken and for its failures.
use Rattle.std.specs.Prelude.{ℕ, zero, suc, List, [], ◌∷◌, ◌++◌, Option, option_map, Result, Ok, Err}

-- what is taken once these bytes follow, where that is told
abbrev pub followed_by : Option (List ℕ) → List ℕ → Option (List ℕ)
followed_by taken bytes = option_map (λ before. before ++ bytes) taken

abbrev pub none_taken : ℕ → List ℕ → ℕ
none_taken zero [] = 0
none_taken zero (x ∷ part) = 1
none_taken (suc n) part = 0

-- a call fails that answers an error, or that takes nothing of a part that isn't empty
abbrev pub failed_calls : {E : Type 0} → Result ℕ E → List ℕ → ℕ
failed_calls (Ok n) part = none_taken n part
failed_calls (Err e) part = 1
