-- Of a node that is moved within its row.
use Rattle.std.proofs.Common.{◌≡◌, ℕ, zero, suc, ◌+◌, ◌-◌, ◌≤◌, Bool, true, false, cond, ◌&&◌, ◌||◌, eqb, ltb, List, [], ◌∷◌, Option, Some, None, Result, Ok, Err, refl, arith}
use Rattle.std.proofs.lemmas.Bool.{eqb-true, ltb-true, ltb-false, and_parts, or_parts}
use Rattle.std.specs.Option.{option_map_or}
use Rattle.yspec.specs.Results.{◌>>=◌}
use Rattle.yspec.specs.Forest.{end, node, size, change_nth}
use Rattle.yspec.specs.schema.Schema.{Schema, is_many}
use Rattle.yspec.specs.document.Document.{Stored, Tree, Step}
use Rattle.yspec.specs.edit.Edit.{is_of, instance_index}
use Rattle.yspec.specs.edit.EditText.{Path}
use Rattle.yspec.specs.edit.Editing.{EditRefusal, refused, BoundStep, Target, target, instance_meant, row_at, lower, bound, bound_to_move, ends_in_many, movable, target_to_move, Branch, without, instance_branch, goes_before, with_branch_behind, with_moved}
use Rattle.yspec.proofs.EditProofs.AnswerLemmas.{If, if_then, anyway}

abbrev pub OnSome : (Branch → Type 0) → Option Branch → Type 0
OnSome P None = Unit {0}
OnSome P (Some b) = P b

pub either_branch : (P : Branch → Type 0) (b : Bool) (x y : Option Branch) → OnSome P x → OnSome P y → OnSome P (cond b x y)
either_branch P true x y first second = first
either_branch P false x y first second = second

-- ---- where a branch goes in front of a node

at_most : (number : ℕ) (s : Stored) (count : ℕ) (b : Bool) → ltb number s.schema_number ≡ b → (b || (eqb s.schema_number number && eqb count 0)) ≡ true
    → number ≤ s.schema_number
at_most number s count true less e = let h = ltb-true number s.schema_number less in omega (arith, h)
at_most number s count false less e =
    let same = eqb-true s.schema_number number (and_parts (eqb s.schema_number number) (eqb count 0) e).0 in omega (arith, same)

pub goes_low : (number count : ℕ) (s : Stored) → goes_before number count s ≡ true → number ≤ s.schema_number
goes_low number count s e = at_most number s count (ltb number s.schema_number) refl e

pub stays_behind : (number count : ℕ) (s : Stored) → goes_before number count s ≡ false → s.schema_number ≤ number
stays_behind number count s e =
    ltb-false number s.schema_number (or_parts (ltb number s.schema_number) (eqb s.schema_number number && eqb count 0) e).0

-- ---- how many nodes there are

pub behind_size : (b : Branch) (count : ℕ) (t : Tree) → size (with_branch_behind b count t) ≡ suc (size b.below) + size t
behind_size b count end = omega arith
behind_size b count (node s below after) =
    by (goes_before b.label.schema_number count s) (behind_size b (cond (is_of b.label.schema_number s) (count - 1) count) after)
  where
    more : Tree
    more = with_branch_behind b (cond (is_of b.label.schema_number s) (count - 1) count) after

    by : (c : Bool) → size more ≡ suc (size b.below) + size after
        → size (cond c (node b.label b.below (node s below after)) (node s below more)) ≡ suc (size b.below) + size (node s below after)
    by true rest = omega arith
    by false rest = omega (arith, rest)

pub taken_size : (number place : ℕ) (t : Tree)
    → OnSome (λ b. size (change_nth (is_of number) place (λ s below after. after) t) + suc (size b.below) ≡ size t) (instance_branch number place t)
taken_size number place end = tt
taken_size number zero (node s below after) = by (is_of number s) (instance_branch number zero after) (taken_size number zero after)
  where
    by : (c : Bool) (o : Option Branch) → OnSome (λ b. size (change_nth (is_of number) zero (λ s below after. after) after) + suc (size b.below) ≡ size after) o
        → OnSome (λ b. size (cond c after (node s below (change_nth (is_of number) zero (λ s below after. after) after))) + suc (size b.below) ≡ size (node s below after))
        (cond c (Some (record { label = s; below = below })) o)
    by true o rest = omega arith
    by false None rest = tt
    by false (Some b) rest = omega (arith, rest)
taken_size number (suc place) (node s below after) =
    by (is_of number s) (instance_branch number place after) (instance_branch number (suc place) after) (taken_size number place after)
    (taken_size number (suc place) after)
  where
    by : (c : Bool) (x y : Option Branch) → OnSome (λ b. size (change_nth (is_of number) place (λ s below after. after) after) + suc (size b.below) ≡ size after) x
        → OnSome (λ b. size (change_nth (is_of number) (suc place) (λ s below after. after) after) + suc (size b.below) ≡ size after) y
        → OnSome (λ b. size (cond c (node s below (change_nth (is_of number) place (λ s below after. after) after))
        (node s below (change_nth (is_of number) (suc place) (λ s below after. after) after))) + suc (size b.below) ≡ size (node s below after))
        (cond c x y)
    by true None y one other = tt
    by true (Some b) y one other = omega (arith, one)
    by false x None one other = tt
    by false x (Some b) one other = omega (arith, other)

-- a row from which a node is moved has as many nodes as before
pub moved_size : (step : Step) (position : ℕ) (t : Tree) → size (with_moved step position t) ≡ size t
moved_size step position t = by (instance_branch step.schema_number (instance_index step) t) (taken_size step.schema_number (instance_index step) t)
  where
    by : (o : Option Branch) → OnSome (λ b. size (without step t) + suc (size b.below) ≡ size t) o
        → size (option_map_or (λ b. with_branch_behind b (position - 1) (without step t)) o t) ≡ size t
    by None taken = refl
    by (Some b) taken = let put = behind_size b (position - 1) (without step t) in omega (arith, put, taken)

-- ---- an entry or item is moved, and nothing else

abbrev pub IsMany : Target → Type 0
IsMany t = is_many t.last.schema_node.kind ≡ true

many_last : (schema : Schema) (row : Tree) (bs : List BoundStep) → ends_in_many bs ≡ true → If IsMany (target schema row bs)
many_last schema row [] many = tt
many_last schema row (b ∷ []) many = many
many_last schema row (b ∷ c ∷ bs) many = anyway IsMany (instance_meant schema 4 row b.schema_node b.predicate) _ (λ step.
    if_then IsMany IsMany (target schema (row_at step.schema_number (instance_index step) row) (c ∷ bs)) _
    (many_last schema (row_at step.schema_number (instance_index step) row) (c ∷ bs) many) (λ t so. so))

abbrev pub EndsInMany : List BoundStep → Type 0
EndsInMany bs = ends_in_many bs ≡ true

-- what is asked of the steps of any path is so of those of one to move
pub to_move : (Q : List BoundStep → Type 0) (schema : Schema) (path : Path) (position : ℕ) → If Q (bound schema false path)
    → If (λ bs. Q bs × EndsInMany bs) (bound_to_move schema path position)
to_move Q schema path position so = by (eqb position 0)
  where
    kept : (bs : List BoundStep) → Q bs → If (λ bs. Q bs × EndsInMany bs) (movable bs)
    kept bs q = by (ends_in_many bs) refl
      where
        by : (c : Bool) → ends_in_many bs ≡ c → If {E = EditRefusal} (λ bs. Q bs × EndsInMany bs) (cond c (Ok bs) (refused 3))
        by true e = (q, e)
        by false e = tt

    by : (c : Bool) → If {E = EditRefusal} (λ bs. Q bs × EndsInMany bs) (cond c (refused 1) (bound schema false path >>= movable))
    by true = tt
    by false = if_then Q (λ bs. Q bs × EndsInMany bs) (bound schema false path) movable so kept

pub target_many : (schema : Schema) (tree : Tree) (bs : List BoundStep) → EndsInMany bs → If IsMany (target schema tree bs)
target_many schema tree bs many = many_last schema tree bs many

-- both of two things hold of an answer
pub if_both : {A E : Type 0} (P Q : A → Type 0) (r : Result A E) → If P r → If Q r → If (λ x. P x × Q x) r
if_both P Q (Ok x) p q = (p, q)
if_both P Q (Err e) p q = tt
