-- The characters that are left stop so many later where all do.
use Rattle.std.proofs.Common.{◌≡◌, ℕ, ◌+◌, ◌≤◌, Bool, true, false, List, [], ◌∷◌, length, drop, Option, Some, None, option_map, refl, sym, ap, ◌∙◌, arith}
use Rattle.std.specs.Prelude.{if◌then◌else◌}
use Rattle.std.proofs.lemmas.List.{drop_all}
use Rattle.ysay_pattern.specs.Stop.{Reading, Stop, at, is_whole, later, stop_behind, stop_from, stop_of, too_soon, with_character}

later_on : (k : ℕ) (o : Option Stop) → option_map (later k) (option_map (later 1) o) ≡ option_map (later (k + 1)) o
later_on k None = refl
later_on k (Some too_soon) = refl
later_on k (Some (at n)) = ap (λ (m : ℕ). Some (at m)) (omega arith)

at_first : (o : Option Stop) → option_map (later 0) o ≡ o
at_first None = refl
at_first (Some too_soon) = refl
at_first (Some (at n)) = ap (λ (m : ℕ). Some (at m)) (omega arith)

nothing_later : (k : ℕ) (s : Reading) → option_map (later k) (stop_from [] s) ≡ stop_from [] s
unfolding stop_from
nothing_later k s = by (is_whole s)
  where
    by : (b : Bool) → option_map (later k) (if b then None else Some too_soon) ≡ (if b then None else Some too_soon)
    by true = refl
    by false = refl

module _ (cs : List ℕ) where
  pub none_read : (s : Reading) → option_map (later 0) (stop_from cs s) ≡ stop_from cs s
  none_read s = at_first (stop_from cs s)

  pub at_end : (k : ℕ) (s : Reading) → length cs ≤ k → option_map (later k) (stop_from (drop k cs) s) ≡ stop_of cs → stop_from [] s ≡ stop_of cs
  at_end k s end so_far = sym (nothing_later k s) ∙ sym (ap (λ (ds : List ℕ). option_map (later k) (stop_from ds s)) (drop_all k cs end)) ∙ so_far

  -- one more, behind which so much was read
  step : (k c : ℕ) (s : Reading) → drop k cs ≡ c ∷ drop (k + 1) cs
      → option_map (later k) (stop_from (drop k cs) s) ≡ option_map (later k) (stop_behind (stop_from (drop (k + 1) cs)) (with_character s c))
  unfolding stop_from
  step k c s is = ap (λ (ds : List ℕ). option_map (later k) (stop_from ds s)) is

  pub one_read : (k c : ℕ) (s next : Reading) → drop k cs ≡ c ∷ drop (k + 1) cs → Some next ≡ with_character s c
      → option_map (later k) (stop_from (drop k cs) s) ≡ stop_of cs → option_map (later (k + 1)) (stop_from (drop (k + 1) cs) next) ≡ stop_of cs
  one_read k c s next is read so_far = sym (later_on k (stop_from (drop (k + 1) cs) next))
      ∙ ap (λ (o : Option Reading). option_map (later k) (stop_behind (stop_from (drop (k + 1) cs)) o)) read ∙ sym (step k c s is) ∙ so_far

  -- the next one can't stand there
  pub stopped : (k c : ℕ) (s : Reading) → drop k cs ≡ c ∷ drop (k + 1) cs → None ≡ with_character s c
      → option_map (later k) (stop_from (drop k cs) s) ≡ stop_of cs → Some (at (k + 1)) ≡ stop_of cs
  stopped k c s is read so_far =
      ap (λ (o : Option Reading). option_map (later k) (stop_behind (stop_from (drop (k + 1) cs)) o)) read ∙ sym (step k c s is) ∙ so_far
