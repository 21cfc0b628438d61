-- The instances of a schema node, as they lie in a row.
use Rattle.std.proofs.Common.{◌≡◌, ℕ, suc, ◌+◌, ◌≤◌, Bool, true, false, cond, not, eqb, List, [], ◌∷◌, take, drop, length, Some, None, refl, ap, ◌∙◌, arith}
use Rattle.std.specs.Prelude.{nat_le, nat_lt, position, unwrap_or}
use Rattle.std.specs.List.{position_or_len}
use Rattle.yspec.specs.Forest.{end, node}
use Rattle.yspec.specs.document.Sorting.{from_number}
use Rattle.yinst_tree.specs.View.{view, row_view}
use Rattle.yinst_tree.specs.Walk.{is_not_before, is_other, before_first, from_first, front, behind}
use Rattle.yinst_tree.specs.declared.tree.Stored.{Stored}

-- the place of the first that passes, or the length
pub place_or_len : {X : Type 0} (p : X → Bool) (xs : List X) → unwrap_or (position p xs) (length xs) ≡ position_or_len p xs
place_or_len {X} p xs = by (nat_lt (position_or_len p xs) (length xs)) refl
  where
    one : (x : X) (xs : List X) (b : Bool) → position_or_len p xs ≤ length xs → cond (not b) (1 + position_or_len p xs) 0 ≤ suc (length xs)
    one x xs true le = omega arith
    one x xs false le = omega (arith, le)

    most : (xs : List X) → position_or_len p xs ≤ length xs
    most [] = omega arith
    most (x ∷ xs) = one x xs (p x) (most xs)

    by : (b : Bool) → nat_lt (position_or_len p xs) (length xs) ≡ b
        → unwrap_or (cond b (Some (position_or_len p xs)) None) (length xs) ≡ position_or_len p xs
    by true is = refl
    by false is = grind (arith, is, most xs)

pub before_place : (p : Stored → Bool) (xs : List Stored) → take (position_or_len p xs) xs ≡ before_first p xs
before_place p [] = refl
before_place p (x ∷ xs) = by (p x) (before_place p xs)
  where
    by : (b : Bool) → take (position_or_len p xs) xs ≡ before_first p xs
        → take (cond (not b) (1 + position_or_len p xs) 0) (x ∷ xs) ≡ cond b [] (x ∷ before_first p xs)
    by true h = refl
    by false h = let next : 1 + position_or_len p xs ≡ suc (position_or_len p xs) = omega arith in
        ap (λ n. take n (x ∷ xs)) next ∙ ap (λ ys. x ∷ ys) h

pub from_place : (p : Stored → Bool) (xs : List Stored) → drop (position_or_len p xs) xs ≡ from_first p xs
from_place p [] = refl
from_place p (x ∷ xs) = by (p x) (from_place p xs)
  where
    by : (b : Bool) → drop (position_or_len p xs) xs ≡ from_first p xs
        → drop (cond (not b) (1 + position_or_len p xs) 0) (x ∷ xs) ≡ cond b (x ∷ xs) (from_first p xs)
    by true h = refl
    by false h = let next : 1 + position_or_len p xs ≡ suc (position_or_len p xs) = omega arith in
        ap (λ n. drop n (x ∷ xs)) next ∙ h

-- what is left from a number on
pub left_rows : (m : ℕ) (xs : List Stored) → row_view (from_first (is_not_before m) xs) ≡ from_number m (row_view xs)
left_rows m [] = refl
left_rows m (x ∷ xs) = by (nat_le m (view x).0.schema_number) (nat_lt (view x).0.schema_number m) refl refl (left_rows m xs)
  where
    by : (b c : Bool) → nat_le m (view x).0.schema_number ≡ b → nat_lt (view x).0.schema_number m ≡ c
        → row_view (from_first (is_not_before m) xs) ≡ from_number m (row_view xs)
        → row_view (cond b (x ∷ xs) (from_first (is_not_before m) xs)) ≡ cond c (from_number m (row_view xs)) (node (view x).0 (view x).1 (row_view xs))
    by true true is less h = grind (arith, is, less)
    by true false is less h = refl
    by false true is less h = h
    by false false is less h = grind (arith, is, less)

-- the instances at the front, and the nodes behind them
pub front_rows : (m : ℕ) (xs : List Stored) → row_view (before_first (is_other m) xs) ≡ front m (row_view xs)
front_rows m [] = refl
front_rows m (x ∷ xs) = by (eqb (view x).0.schema_number m) (front_rows m xs)
  where
    by : (b : Bool) → row_view (before_first (is_other m) xs) ≡ front m (row_view xs)
        → row_view (cond (not b) [] (x ∷ before_first (is_other m) xs)) ≡ cond b (node (view x).0 (view x).1 (front m (row_view xs))) end
    by true h = ap (node (view x).0 (view x).1) h
    by false h = refl

pub behind_rows : (m : ℕ) (xs : List Stored) → row_view (from_first (is_other m) xs) ≡ behind m (row_view xs)
behind_rows m [] = refl
behind_rows m (x ∷ xs) = by (eqb (view x).0.schema_number m) (behind_rows m xs)
  where
    by : (b : Bool) → row_view (from_first (is_other m) xs) ≡ behind m (row_view xs)
        → row_view (cond (not b) (x ∷ xs) (from_first (is_other m) xs)) ≡ cond b (behind m (row_view xs)) (node (view x).0 (view x).1 (row_view xs))
    by true h = h
    by false h = refl
