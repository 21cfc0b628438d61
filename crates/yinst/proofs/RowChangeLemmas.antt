-- A change of a row is made behind the nodes before its place.
use Rattle.std.proofs.Common.{◌≡◌, ℕ, zero, suc, ◌+◌, ◌-◌, ◌==◌, ◌<◌, Bool, true, false, cond, List, [], ◌∷◌, ◌++◌, length, take, drop, slice_index_or, Result, Ok, Err, IfOk, refl, sym, ap, ap₂, ◌∙◌, arith}
use Rattle.std.specs.Prelude.{nat_lt, insert}
use Rattle.std.proofs.lemmas.List.{at_drop_more}
use Rattle.yspec.specs.Forest.{end, node, join, size, change_nth}
use Rattle.yspec.specs.document.Document as document
use Rattle.yspec.specs.document.Document.{Tree}
use Rattle.yspec.specs.edit.Edit.{is_of, change_below}
use Rattle.yspec.specs.edit.Editing.{Branch, with_branch, goes_before, with_branch_behind}
use Rattle.yinst_tree.specs.View.{Labelled, view, row_view}
use Rattle.yinst_tree.specs.Walk.{before_first, from_first}
use Rattle.yinst.specs.Rows.{number_of, is_behind, nth_index, index_among, change_first, behind_first, branch_view}
use Rattle.yinst_tree.specs.declared.tree.Stored.{Stored}
use Rattle.yspec.proofs.ForestLemmas.{join_end}
use Rattle.yinst_tree.proofs.RowLemmas.{join_last}

-- a change of an instance is one of the first node from its place on
pub nth_parts : (n k : ℕ) (change : document.Stored → Tree → Tree → Tree) (xs : List Stored) → change_nth (is_of n) k change (row_view xs)
    ≡ join (row_view (take (nth_index n k xs) xs)) (change_first change (row_view (drop (nth_index n k xs) xs)))
nth_parts n k change [] = refl
nth_parts n zero change (x ∷ xs) = by (number_of x == n) (nth_parts n zero change xs)
  where
    by : (b : Bool) → change_nth (is_of n) zero change (row_view xs)
        ≡ join (row_view (take (nth_index n zero xs) xs)) (change_first change (row_view (drop (nth_index n zero xs) xs)))
        → cond b (change (view x).0 (view x).1 (row_view xs)) (node (view x).0 (view x).1 (change_nth (is_of n) zero change (row_view xs)))
        ≡ join (row_view (take (cond b 0 (1 + nth_index n zero xs)) (x ∷ xs))) (change_first change (row_view (drop (cond b 0 (1 + nth_index n zero xs)) (x ∷ xs))))
    by true h = refl
    by false h = let next : 1 + nth_index n zero xs ≡ suc (nth_index n zero xs) = omega arith in
        ap (node (view x).0 (view x).1) h ∙ sym (ap (λ j. join (row_view (take j (x ∷ xs))) (change_first change (row_view (drop j (x ∷ xs))))) next)
nth_parts n (suc k) change (x ∷ xs) = by (number_of x == n) (nth_parts n k change xs) (nth_parts n (suc k) change xs)
  where
    one : (j : ℕ) (t : Tree) → t ≡ join (row_view (take j xs)) (change_first change (row_view (drop j xs)))
        → node (view x).0 (view x).1 t ≡ join (row_view (take (1 + j) (x ∷ xs))) (change_first change (row_view (drop (1 + j) (x ∷ xs))))
    one j t h = let next : 1 + j ≡ suc j = omega arith in
        ap (node (view x).0 (view x).1) h ∙ sym (ap (λ m. join (row_view (take m (x ∷ xs))) (change_first change (row_view (drop m (x ∷ xs))))) next)

    by : (b : Bool) → change_nth (is_of n) k change (row_view xs) ≡ join (row_view (take (nth_index n k xs) xs)) (change_first change (row_view (drop (nth_index n k xs) xs)))
        → change_nth (is_of n) (suc k) change (row_view xs) ≡ join (row_view (take (nth_index n (suc k) xs) xs)) (change_first change (row_view (drop (nth_index n (suc k) xs) xs)))
        → cond b (node (view x).0 (view x).1 (change_nth (is_of n) k change (row_view xs))) (node (view x).0 (view x).1 (change_nth (is_of n) (suc k) change (row_view xs)))
        ≡ join (row_view (take (1 + cond b (nth_index n k xs) (nth_index n (suc k) xs)) (x ∷ xs))) (change_first change (row_view (drop (1 + cond b (nth_index n k xs) (nth_index n (suc k) xs)) (x ∷ xs))))
    by true here later = one (nth_index n k xs) _ here
    by false here later = one (nth_index n (suc k) xs) _ later

-- a branch stands in front of the first node behind its schema node
pub branch_parts : (p : Branch) (xs : List Stored) → let test = is_behind p.label.schema_number in
    with_branch p (row_view xs) ≡ join (row_view (before_first test xs)) (node p.label p.below (row_view (from_first test xs)))
branch_parts p [] = refl
branch_parts p (x ∷ xs) = by (nat_lt p.label.schema_number (number_of x)) (branch_parts p xs)
  where
    by : (b : Bool) → let test = is_behind p.label.schema_number in
        with_branch p (row_view xs) ≡ join (row_view (before_first test xs)) (node p.label p.below (row_view (from_first test xs)))
        → cond b (node p.label p.below (row_view (x ∷ xs))) (node (view x).0 (view x).1 (with_branch p (row_view xs)))
        ≡ join (row_view (cond b [] (x ∷ before_first test xs))) (node p.label p.below (row_view (cond b (x ∷ xs) (from_first test xs))))
    by true h = refl
    by false h = ap (node (view x).0 (view x).1) h

-- a copy that is put behind others takes its place in the row
pub one_more : (done : List Stored) (s copy : Stored) (rest : List Stored) → view copy ≡ view s
    → join (row_view (done ++ copy ∷ [])) (row_view rest) ≡ join (row_view done) (row_view (s ∷ rest))
one_more done s copy rest same = join_last done copy (view s).0 (view s).1 (row_view rest) same

-- a row's nodes, from one on
pub counted : (xs : List Stored) (i : ℕ) (d : Stored) → i < length xs
    → size (row_view (drop i xs)) ≡ suc (size (view (slice_index_or xs i d)).1 + size (row_view (drop (i + 1) xs)))
counted xs i d lt = at_drop_more (λ ys. size (row_view ys)) xs i d lt

pub nothing_left : (xs : List Stored) → length xs ≡ 0 → xs ≡ []
nothing_left [] e = refl
nothing_left (x ∷ xs) e = absurd (omega (arith, e))

pub same_if_ok : {X E : Type 0} (r : Result X E) (see : X → Tree) (a b : Tree) → b ≡ a → IfOk r (λ x. see x ≡ b) → IfOk r (λ x. see x ≡ a)
same_if_ok (Ok x) see a b is h = h ∙ is
same_if_ok (Err e) see a b is h = tt

pub branch_put : (p : Stored) (row before from nodes : List Stored) (i : ℕ) → i ≡ number_of p
    → before ≡ before_first (is_behind i) row → from ≡ from_first (is_behind i) row → row_view nodes ≡ row_view before
    → join (row_view nodes) (node (view p).0 (view p).1 (row_view from)) ≡ with_branch (branch_view p) (row_view row)
branch_put p row before from nodes i i_is before_is from_is nodes_are =
    ap₂ (λ t f. join t (node (view p).0 (view p).1 (row_view f))) (nodes_are ∙ ap row_view (before_is ∙ ap (λ n. before_first (is_behind n) row) i_is))
    (from_is ∙ ap (λ n. from_first (is_behind n) row) i_is) ∙ sym (branch_parts (branch_view p) row)

-- the nodes before the place, and what becomes of those from it on
pub changed_at : (n k : ℕ) (change : document.Stored → Tree → Tree → Tree) (row before from nodes : List Stored) (t : Tree)
    → before ≡ take (nth_index n k row) row → from ≡ drop (nth_index n k row) row → row_view nodes ≡ row_view before
    → t ≡ change_first change (row_view from) → join (row_view nodes) t ≡ change_nth (is_of n) k change (row_view row)
changed_at n k change row before from nodes t before_is from_is nodes_are t_is =
    ap₂ join (nodes_are ∙ ap row_view before_is) (t_is ∙ ap (λ f. change_first change (row_view f)) from_is) ∙ sym (nth_parts n k change row)

-- where the place is behind all nodes
pub nothing_changed : (n k : ℕ) (change : document.Stored → Tree → Tree → Tree) (row before from nodes : List Stored)
    → before ≡ take (nth_index n k row) row → from ≡ drop (nth_index n k row) row → row_view nodes ≡ row_view before
    → length from ≡ 0 → row_view nodes ≡ change_nth (is_of n) k change (row_view row)
nothing_changed n k change row before from nodes before_is from_is nodes_are none =
    sym (join_end (row_view nodes))
    ∙ changed_at n k change row before from nodes end before_is from_is nodes_are (sym (ap (λ f. change_first change (row_view f)) (nothing_left from none)))

pub below_changed : (n k : ℕ) (f : Tree → Tree) (row before from nodes after : List Stored) (s w : Stored) (t u : Tree)
    → before ≡ take (nth_index n k row) row → from ≡ drop (nth_index n k row) row → row_view nodes ≡ row_view before
    → from ≡ s ∷ after → view w ≡ ((view s).0, u) → u ≡ f t → t ≡ (view s).1
    → join (row_view nodes) (node (view w).0 (view w).1 (row_view after)) ≡ change_below n k f (row_view row)
below_changed n k f row before from nodes after s w t u before_is from_is nodes_are parts w_is u_is t_is =
    changed_at n k (λ l below later. node l (f below) later) row before from nodes (node (view w).0 (view w).1 (row_view after)) before_is from_is nodes_are
    (ap (λ (l : Labelled). node l.0 l.1 (row_view after)) (w_is ∙ ap (λ x. ((view s).0, x)) (u_is ∙ ap f t_is))
    ∙ ap (λ g. change_first (λ l below later. node l (f below) later) (row_view g)) (sym parts))

pub put_instead : (n k : ℕ) (p : Stored) (row before from nodes after : List Stored) (s : Stored)
    → before ≡ take (nth_index n k row) row → from ≡ drop (nth_index n k row) row → row_view nodes ≡ row_view before → from ≡ s ∷ after
    → join (row_view nodes) (node (view p).0 (view p).1 (row_view after))
    ≡ change_nth (is_of n) k (λ l below later. node (branch_view p).label (branch_view p).below later) (row_view row)
put_instead n k p row before from nodes after s before_is from_is nodes_are parts =
    changed_at n k (λ l below later. node (branch_view p).label (branch_view p).below later) row before from nodes (node (view p).0 (view p).1 (row_view after))
    before_is from_is nodes_are (ap (λ g. change_first (λ l below later. node (branch_view p).label (branch_view p).below later) (row_view g)) (sym parts))

pub node_taken : (n k : ℕ) (row before from nodes after : List Stored)
    → before ≡ take (nth_index n k row) row → from ≡ drop (nth_index n k row) row → row_view nodes ≡ row_view before
    → row_view after ≡ behind_first (row_view from)
    → join (row_view nodes) (row_view after) ≡ change_nth (is_of n) k (λ l below later. later) (row_view row)
node_taken n k row before from nodes after before_is from_is nodes_are after_is =
    changed_at n k (λ l below later. later) row before from nodes (row_view after) before_is from_is nodes_are (after_is ∙ same (row_view from))
  where
    same : (t : Tree) → behind_first t ≡ change_first (λ l below later. later) t
    same end = refl
    same (node l below later) = refl

-- ---- nodes that are moved

-- a node that is put in at the index behind so many of its schema node
pub put_among : (x : Stored) (k : ℕ) (xs : List Stored)
    → row_view (insert xs (index_among (number_of x) k xs) x) ≡ with_branch_behind (branch_view x) k (row_view xs)
put_among x k [] = refl
put_among x k (y ∷ ys) = by (goes_before (number_of x) k (view y).0) (cond (number_of y == number_of x) (k - 1) k) (λ left. put_among x left ys)
  where
    by : (b : Bool) (left : ℕ) → ((k : ℕ) → row_view (insert ys (index_among (number_of x) k ys) x) ≡ with_branch_behind (branch_view x) k (row_view ys))
        → row_view (insert (y ∷ ys) (cond b 0 (1 + index_among (number_of x) left ys)) x)
        ≡ cond b (node (view x).0 (view x).1 (row_view (y ∷ ys))) (node (view y).0 (view y).1 (with_branch_behind (branch_view x) left (row_view ys)))
    by true left h = refl
    by false left h = let next : 1 + index_among (number_of x) left ys ≡ suc (index_among (number_of x) left ys) = omega arith in
        ap (λ m. row_view (insert (y ∷ ys) m x)) next ∙ ap (node (view y).0 (view y).1) (h left)
