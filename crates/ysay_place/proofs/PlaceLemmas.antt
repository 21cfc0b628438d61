-- The first instance of a schema node, the last step to a place, and rows in order.
use Rattle.std.proofs.Common.{◌≡◌, ℕ, zero, suc, Bool, true, false, cond, List, [], ◌∷◌, ◌++◌, Option, Some, None, refl, sym, subst, ap, ◌∙◌}
use Rattle.std.proofs.lemmas.List.{map-append}
use Rattle.std.specs.Prelude.{◌==◌, option_map}
use Rattle.std.specs.Option.{option_map_or}
use Rattle.yspec.specs.Forest.{end, node}
use Rattle.yspec.specs.document.Document.{Stored, Tree, Step, stored_in}
use Rattle.yspec.specs.document.Sorting.{IsSorted}
use Rattle.yinst_tree.specs.View.{place_view, step_view}
use Rattle.yinst_tree.specs.declared.tree.Step as code
use Rattle.ysay_place.specs.Places.{nth_instance, index_of, last_step, steps_above, row_at, row_to}

pub first_instance : (m : ℕ) (t : Tree) → option_map (λ (found : Stored × Tree). found.0) (nth_instance m 0 t) ≡ stored_in m t
first_instance m end = refl
first_instance m (node s below after) = by (s.schema_number == m) (first_instance m after)
  where
    by : (b : Bool) → option_map (λ (found : Stored × Tree). found.0) (nth_instance m 0 after) ≡ stored_in m after
        → option_map (λ (found : Stored × Tree). found.0) (cond b (Some (s, below)) (nth_instance m 0 after)) ≡ cond b (Some s) (stored_in m after)
    by true h = refl
    by false h = h

-- as something that is seen so is the first
pub first_seen : {A : Type 0} (see : A → Stored × Tree) (o : Option A) (m : ℕ) (t : Tree) → option_map see o ≡ nth_instance m 0 t
    → option_map (λ x. (see x).0) o ≡ stored_in m t
first_seen see (Some x) m t is = ap (option_map (λ (found : Stored × Tree). found.0)) is ∙ first_instance m t
first_seen see None m t is = ap (option_map (λ (found : Stored × Tree). found.0)) is ∙ first_instance m t

-- ---- the last step

last_behind : (above : List Step) (step : Step) → last_step (above ++ step ∷ []) ≡ Some step
last_behind [] step = refl
last_behind (x ∷ []) step = refl
last_behind (x ∷ y ∷ xs) step = last_behind (y ∷ xs) step

above_before : (above : List Step) (step : Step) → steps_above (above ++ step ∷ []) ≡ above
above_before [] step = refl
above_before (x ∷ []) step = refl
above_before (x ∷ y ∷ xs) step = ap (λ (ys : List Step). x ∷ ys) (above_before (y ∷ xs) step)

module _ (steps above : List code.Step) (step : code.Step) (is : steps ≡ above ++ step ∷ []) where
  seen : place_view steps ≡ place_view above ++ step_view step ∷ []
  seen = ap place_view is ∙ map-append step_view above (step ∷ [])

  pub last_seen : last_step (place_view steps) ≡ Some (step_view step)
  last_seen = ap last_step seen ∙ last_behind (place_view above) (step_view step)

  pub above_seen : steps_above (place_view steps) ≡ place_view above
  above_seen = ap steps_above seen ∙ above_before (place_view above) (step_view step)

-- ---- what stands below rows in order is in order

abbrev below : Option (Stored × Tree) → Tree
below found = option_map_or (λ (f : Stored × Tree). f.1) found end

below_sorted : (m i : ℕ) (t : Tree) → IsSorted t → IsSorted (below (nth_instance m i t))
below_sorted m i end sorted = tt
below_sorted m zero (node s inner after) sorted = by (s.schema_number == m) sorted.1 (below_sorted m zero after sorted.2)
  where
    by : (b : Bool) → IsSorted inner → IsSorted (below (nth_instance m zero after))
        → IsSorted (below (cond b (Some (s, inner)) (nth_instance m zero after)))
    by true here later = here
    by false here later = later
below_sorted m (suc i) (node s inner after) sorted =
    by (s.schema_number == m) (below_sorted m i after sorted.2) (below_sorted m (suc i) after sorted.2)
  where
    by : (b : Bool) → IsSorted (below (nth_instance m i after)) → IsSorted (below (nth_instance m (suc i) after))
        → IsSorted (below (cond b (nth_instance m i after) (nth_instance m (suc i) after)))
    by true mine other = mine
    by false mine other = other

pub row_sorted : (t : Tree) (steps : List Step) → IsSorted t → IsSorted (row_at t steps)
row_sorted t [] sorted = sorted
row_sorted t (step ∷ steps) sorted =
    row_sorted (row_to t step) steps (below_sorted step.schema_number (index_of step.position) t sorted)

pub found_sorted : (t : Tree) (step : Step) → IsSorted t → IsSorted (row_to t step)
found_sorted t step sorted = below_sorted step.schema_number (index_of step.position) t sorted

pub row_in_order : (t row : Tree) (steps : List Step) → row ≡ row_at t steps → IsSorted t → IsSorted row
row_in_order t row steps is sorted = subst IsSorted (sym is) (row_sorted t steps sorted)
