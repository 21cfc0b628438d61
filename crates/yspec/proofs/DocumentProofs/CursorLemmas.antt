-- In a row in order the instances of a schema node stand together, at the front of what is left from its number on.
use Rattle.std.proofs.Common.{◌≡◌, ℕ, ◌≤◌, ◌<◌, Bool, true, false, cond, eqb, ltb, [], ◌∷◌, refl, sym, ap, ◌∙◌, arith}
use Rattle.std.proofs.lemmas.Bool.{eqb-true, eqb-false, lt-ltb, ltb-true, ltb-false}
use Rattle.yspec.specs.Forest.{end, node}
use Rattle.yspec.specs.document.Document.{Stored, Tree}
use Rattle.yspec.specs.document.Sorting.{StartsAt, IsSorted, from_number, each_front}
use Rattle.yspec.specs.document.RowFaults.{each_instance}
use Rattle.yspec.proofs.DocumentProofs.FittingLemmas.{eqb_other}

starts_lower : (t : Tree) (k m : ℕ) → StartsAt k t → m ≤ k → StartsAt m t
starts_lower end k m starts lower = tt
starts_lower (node s below after) k m starts lower = omega (arith, starts, lower)

module _ {A : Type 0} (m : ℕ) (said : Stored → Tree → A) where
  -- a row that starts behind a number has no instance of it
  none_behind : (t : Tree) (k : ℕ) → IsSorted t → StartsAt k t → m < k → each_instance m said t ≡ []
  none_behind end k sorted starts before = refl
  none_behind (node s below after) k sorted starts before =
      ap (λ b. cond b (said s below ∷ each_instance m said after) (each_instance m said after)) (eqb_other s.schema_number m (λ e. absurd (omega (arith, e, starts, before))))
      ∙ none_behind after s.schema_number sorted.2 sorted.0 (omega (arith, starts, before))

  front_from : (s : Stored) (below after : Tree) → IsSorted (node s below after) → m ≤ s.schema_number
      → (s.schema_number ≡ m → each_instance m said after ≡ each_front m said after)
      → (b : Bool) → eqb s.schema_number m ≡ b
      → cond b (said s below ∷ each_instance m said after) (each_instance m said after) ≡ cond b (said s below ∷ each_front m said after) []
  front_from s below after sorted starts rest true e = ap (λ xs. said s below ∷ xs) (rest (eqb-true s.schema_number m e))
  front_from s below after sorted starts rest false e =
      none_behind after s.schema_number sorted.2 sorted.0 (omega (arith, starts, eqb-false s.schema_number m e))

  front : (t : Tree) → IsSorted t → StartsAt m t → each_instance m said t ≡ each_front m said t
  front end sorted starts = refl
  front (node s below after) sorted starts = front_from s below after sorted starts
      (λ same. front after sorted.2 (starts_lower after s.schema_number m sorted.0 (omega (arith, same))))
      (eqb s.schema_number m) refl

  skipped : (s : Stored) (below after : Tree) (k : ℕ) (b : Bool) → k ≤ m → ltb s.schema_number k ≡ b
      → each_instance m said (from_number k after) ≡ each_instance m said after
      → each_instance m said (cond b (from_number k after) (node s below after)) ≡ each_instance m said (node s below after)
  skipped s below after k true lower e rest = rest ∙ sym (ap (λ b. cond b (said s below ∷ each_instance m said after) (each_instance m said after))
      (eqb_other s.schema_number m (λ same. absurd (omega (arith, same, lower, ltb-true s.schema_number k e)))))
  skipped s below after k false lower e rest = refl

  pub left : (t : Tree) (k : ℕ) → k ≤ m → each_instance m said (from_number k t) ≡ each_instance m said t
  left end k lower = refl
  left (node s below after) k lower = skipped s below after k (ltb s.schema_number k) lower refl (left after k lower)

sorted_from : (s : Stored) (below after : Tree) (k : ℕ) (b : Bool) → ltb s.schema_number k ≡ b → IsSorted (node s below after)
    → IsSorted (from_number k after) × StartsAt k (from_number k after)
    → IsSorted (cond b (from_number k after) (node s below after)) × StartsAt k (cond b (from_number k after) (node s below after))
sorted_from s below after k true e sorted rest = rest
sorted_from s below after k false e sorted rest = (sorted, ltb-false s.schema_number k e)

pub sorted_left : (t : Tree) (k : ℕ) → IsSorted t → IsSorted (from_number k t) × StartsAt k (from_number k t)
sorted_left end k sorted = (tt, tt)
sorted_left (node s below after) k sorted = sorted_from s below after k (ltb s.schema_number k) refl sorted (sorted_left after k sorted.2)

-- the instances of a schema node stand at the front of what is left from its number on
pub each_is_front : {A : Type 0} (m : ℕ) (said : Stored → Tree → A) (t : Tree) → IsSorted t
    → each_instance m said t ≡ each_front m said (from_number m t)
each_is_front m said t sorted = let what = sorted_left t m sorted in
    sym (left m said t m (omega arith)) ∙ front m said (from_number m t) what.0 what.1

left_again : (s : Stored) (below after : Tree) (k m : ℕ) (b : Bool) → k ≤ m → ltb s.schema_number k ≡ b
    → from_number m (from_number k after) ≡ from_number m after
    → from_number m (cond b (from_number k after) (node s below after)) ≡ from_number m (node s below after)
left_again s below after k m true lower e rest = rest
    ∙ sym (ap (λ b. cond b (from_number m after) (node s below after)) (lt-ltb s.schema_number m (omega (arith, lower, ltb-true s.schema_number k e))))
left_again s below after k m false lower e rest = refl

-- so a cursor may go on from where it is
pub left_twice : (t : Tree) (k m : ℕ) → k ≤ m → from_number m (from_number k t) ≡ from_number m t
left_twice end k m lower = refl
left_twice (node s below after) k m lower = left_again s below after k m (ltb s.schema_number k) lower refl (left_twice after k m lower)
