-- Changes of numbered rows as changes of documents.
use Rattle.std.proofs.Common.{◌≡◌, ℕ, zero, suc, ◌+◌, ◌-◌, ◌<◌, ◌≤◌, Bool, true, false, ◌&&◌, ◌||◌, not, List, [], ◌∷◌, length, min, Some, refl, sym, ap, ◌∙◌, arith, cond, eqb, leb, ltb}
use Rattle.std.specs.Prelude.{nat_lt}
use Rattle.std.specs.Option.{option_map_or}
use Rattle.std.proofs.lemmas.Bool.{eq-eqb, eqb-true, leb-true, leb-false, ltb-true, ltb-false}
use Rattle.std.proofs.lemmas.List.Sums.{sum_by-cons}
use Rattle.yspec.specs.Forest.{end, node, row, join, change_nth}
use Rattle.yspec.specs.document.Document.{Stored, Tree, Step, instances_in}
use Rattle.yspec.specs.document.Sorting.{IsSorted, StartsAt}
use Rattle.yspec.specs.edit.Edit.{is_of, edit_at, instance_index}
use Rattle.yspec.specs.edit.Editing.{Branch, goes_before, instance_branch, moved_branch, with_branch, with_branch_behind, with_instead, with_moved, without}
use Rattle.ystore_rows.specs.Rows as rows
use Rattle.ystore_tree.specs.Hanging.{Numbered, Branches, stored_of, tree_of, child_of, children_of}
use Rattle.ystore_tree.specs.Ways.{Way, Goes, around}
use Rattle.ystore_tree.specs.Changes.{put_at, with_node, with_node_at}
use Rattle.ystore_tree.proofs.FoundLemmas as found
use Rattle.ystore_tree.proofs.GrowLemmas.{tree_join}
use Rattle.ystore_tree.proofs.SwapLemmas.{none_less}

-- a number that isn't above another is no more
turned : (a b : ℕ) → nat_lt b a ≡ not (leb a b)
turned a b = by (leb a b) refl
  where
    by : (x : Bool) → leb a b ≡ x → nat_lt b a ≡ not x
    by true e = grind (arith, leb-true a b e)
    by false e = grind (arith, leb-false a b e)

pub added : (n : Numbered) (below f : Branches) → tree_of (with_node n below f) ≡ with_branch (record { label = stored_of n; below = tree_of below }) (tree_of f)
added n below end = refl
added n below (node m under after) = by (leb m.schema.0 n.schema.0) refl (added n below after)
  where
    b : Branch
    b = record { label = stored_of n; below = tree_of below }

    later : (k : ℕ) → tree_of (put_at (1 + k) n below (node m under after)) ≡ node (stored_of m) (tree_of under) (tree_of (put_at k n below after))
    later k = let next : 1 + k ≡ suc k = omega arith in ap (λ j. tree_of (put_at j n below (node m under after))) next

    by : (x : Bool) → leb m.schema.0 n.schema.0 ≡ x
        → tree_of (with_node n below after) ≡ with_branch (record { label = stored_of n; below = tree_of below }) (tree_of after)
        → tree_of (with_node n below (node m under after))
        ≡ cond (nat_lt n.schema.0 m.schema.0) (node (stored_of n) (tree_of below) (node (stored_of m) (tree_of under) (tree_of after)))
        (node (stored_of m) (tree_of under) (with_branch (record { label = stored_of n; below = tree_of below }) (tree_of after)))
    by true e rest =
        ap (λ x. tree_of (put_at (cond x (1 + rows.end_place n.schema (children_of after)) 0) n below (node m under after))) e
        ∙ (later (rows.end_place n.schema (children_of after))
        ∙ (ap (node (stored_of m) (tree_of under)) rest
        ∙ sym (ap (λ x. cond x (node (stored_of n) (tree_of below) (node (stored_of m) (tree_of under) (tree_of after)))
        (node (stored_of m) (tree_of under) (with_branch (record { label = stored_of n; below = tree_of below }) (tree_of after)))) (turned m.schema.0 n.schema.0 ∙ ap not e))))
    by false e rest =
        ap (λ x. tree_of (put_at (cond x (1 + rows.end_place n.schema (children_of after)) 0) n below (node m under after))) e
        ∙ sym (ap (λ x. cond x (node (stored_of n) (tree_of below) (node (stored_of m) (tree_of under) (tree_of after)))
        (node (stored_of m) (tree_of under) (with_branch (record { label = stored_of n; below = tree_of below }) (tree_of after)))) (turned m.schema.0 n.schema.0 ∙ ap not e))

-- ---- at a place among those of a schema node

instances-cons : (r : Stored) (below after : Tree) (number : ℕ) (b : Bool) → eqb r.schema_number number ≡ b
    → instances_in (node r below after) number ≡ cond b 1 0 + instances_in after number
instances-cons r below after number b e =
    sum_by-cons (λ (x : Stored). cond (eqb x.schema_number number) 1 0) r (row after)
    ∙ ap (λ x. cond x 1 0 + instances_in after number) e

-- a change of the node behind others of its number
nth_is : (number k : ℕ) (change : Stored → Tree → Tree → Tree) (first : Tree) (s : Stored) (under rest : Tree) → s.schema_number ≡ number → instances_in first number ≡ k
    → change_nth (is_of number) k change (join first (node s under rest)) ≡ join first (change s under rest)
nth_is number k change end s under rest same count =
    ap (λ j. change_nth (is_of number) j change (node s under rest)) (sym count)
    ∙ ap (λ b. cond b (change s under rest) (node s under (change_nth (is_of number) 0 change rest))) (eq-eqb s.schema_number number same)
nth_is number k change (node r below after) s under rest same count =
    by (eqb r.schema_number number) refl k count (λ j e. nth_is number j change after s under rest same e)
  where
    by : (b : Bool) → eqb r.schema_number number ≡ b → (k : ℕ) → instances_in (node r below after) number ≡ k
        → ((j : ℕ) → instances_in after number ≡ j → change_nth (is_of number) j change (join after (node s under rest)) ≡ join after (change s under rest))
        → change_nth (is_of number) k change (node r below (join after (node s under rest))) ≡ node r below (join after (change s under rest))
    by true e zero count inner = absurd (omega (arith, count, counted))
      where
        counted : instances_in (node r below after) number ≡ 1 + instances_in after number
        counted = instances-cons r below after number true e
    by true e (suc k) count inner =
        ap (λ b. cond b (node r below (change_nth (is_of number) k change (join after (node s under rest))))
        (node r below (change_nth (is_of number) (suc k) change (join after (node s under rest))))) e
        ∙ ap (node r below) (inner k (omega (arith, count, counted)))
      where
        counted : instances_in (node r below after) number ≡ 1 + instances_in after number
        counted = instances-cons r below after number true e
    by false e zero count inner =
        ap (λ b. cond b (change r below (join after (node s under rest))) (node r below (change_nth (is_of number) zero change (join after (node s under rest))))) e
        ∙ ap (node r below) (inner zero (omega (arith, count, counted)))
      where
        counted : instances_in (node r below after) number ≡ instances_in after number
        counted = let all = instances-cons r below after number false e in omega (arith, all)
    by false e (suc k) count inner =
        ap (λ b. cond b (node r below (change_nth (is_of number) k change (join after (node s under rest))))
        (node r below (change_nth (is_of number) (suc k) change (join after (node s under rest))))) e
        ∙ ap (node r below) (inner (suc k) (omega (arith, count, counted)))
      where
        counted : instances_in (node r below after) number ≡ instances_in after number
        counted = let all = instances-cons r below after number false e in omega (arith, all)

nth_in : (number k : ℕ) (change : Stored → Tree → Tree → Tree) (first rest : Branches) (m : Numbered) (under : Branches) → m.schema.0 ≡ number → instances_in (tree_of first) number ≡ k
    → change_nth (is_of number) k change (tree_of (join first (node m under rest))) ≡ join (tree_of first) (change (stored_of m) (tree_of under) (tree_of rest))
nth_in number k change first rest m under same count =
    ap (change_nth (is_of number) k change) (tree_join first (node m under rest))
    ∙ nth_is number k change (tree_of first) (stored_of m) (tree_of under) (tree_of rest) same count

pub put : (step : Step) (first rest : Branches) (m : Numbered) (under : Branches) (n : Numbered) (below : Branches)
    → m.schema.0 ≡ step.schema_number → instances_in (tree_of first) step.schema_number ≡ instance_index step
    → with_instead step (record { label = stored_of n; below = tree_of below }) (tree_of (join first (node m under rest))) ≡ tree_of (join first (node n below rest))
put step first rest m under n below same count =
    nth_in step.schema_number (instance_index step) (λ s b after. node (stored_of n) (tree_of below) after) first rest m under same count
    ∙ sym (tree_join first (node n below rest))

pub taken : (step : Step) (first rest : Branches) (m : Numbered) (under : Branches)
    → m.schema.0 ≡ step.schema_number → instances_in (tree_of first) step.schema_number ≡ instance_index step
    → without step (tree_of (join first (node m under rest))) ≡ tree_of (join first rest)
taken step first rest m under same count =
    nth_in step.schema_number (instance_index step) (λ s b after. after) first rest m under same count
    ∙ sym (tree_join first rest)

pub along : (steps : List Step) (way : Way) (change : Tree → Tree) (f g : Branches) → Goes steps way → change (tree_of f) ≡ tree_of g
    → edit_at steps change (tree_of (around way f)) ≡ tree_of (around way g)
along [] [] change f g goes is = is
along [] (frame ∷ way) change f g goes is = absurd goes
along (step ∷ steps) [] change f g goes is = absurd goes
along (step ∷ steps) (frame ∷ way) change f g goes is =
    nth_in step.schema_number (instance_index step) (λ s b after. node s (edit_at steps change b) after) frame.before frame.after frame.label (around way f) goes.0 goes.1
    ∙ (ap (λ b. join (tree_of frame.before) (node (stored_of frame.label) b (tree_of frame.after))) (along steps way change f g goes.2 is)
    ∙ sym (tree_join frame.before (node frame.label (around way g) frame.after)))

-- ---- at another place among those of its schema node

-- the node behind others of its number
branch_is : (number k : ℕ) (first : Tree) (s : Stored) (under rest : Tree) → s.schema_number ≡ number → instances_in first number ≡ k
    → instance_branch number k (join first (node s under rest)) ≡ Some (record { label = s; below = under })
branch_is number k end s under rest same count =
    ap (λ j. instance_branch number j (node s under rest)) (sym count)
    ∙ ap (λ b. cond b (Some (record { label = s; below = under })) (instance_branch number 0 rest)) (eq-eqb s.schema_number number same)
branch_is number k (node r below after) s under rest same count =
    by (eqb r.schema_number number) refl k count (λ j e. branch_is number j after s under rest same e)
  where
    others : Tree
    others = join after (node s under rest)

    by : (b : Bool) → eqb r.schema_number number ≡ b → (k : ℕ) → instances_in (node r below after) number ≡ k
        → ((j : ℕ) → instances_in after number ≡ j → instance_branch number j others ≡ Some (record { label = s; below = under }))
        → instance_branch number k (node r below others) ≡ Some (record { label = s; below = under })
    by true e zero count inner = absurd (omega (arith, count, counted))
      where
        counted : instances_in (node r below after) number ≡ 1 + instances_in after number
        counted = instances-cons r below after number true e
    by true e (suc k) count inner =
        ap (λ b. cond b (instance_branch number k others) (instance_branch number (suc k) others)) e ∙ inner k (omega (arith, count, counted))
      where
        counted : instances_in (node r below after) number ≡ 1 + instances_in after number
        counted = instances-cons r below after number true e
    by false e zero count inner =
        ap (λ b. cond b (Some (record { label = r; below = below })) (instance_branch number zero others)) e ∙ inner zero (omega (arith, count, counted))
      where
        counted : instances_in (node r below after) number ≡ instances_in after number
        counted = let all = instances-cons r below after number false e in omega (arith, all)
    by false e (suc k) count inner =
        ap (λ b. cond b (instance_branch number k others) (instance_branch number (suc k) others)) e ∙ inner (suc k) (omega (arith, count, counted))
      where
        counted : instances_in (node r below after) number ≡ instances_in after number
        counted = let all = instances-cons r below after number false e in omega (arith, all)

-- a row in order is so without one of its nodes
starts_less : (k : ℕ) (first rest : Branches) (m : Numbered) (under : Branches) → StartsAt k (tree_of (join first (node m under rest)))
    → IsSorted (tree_of (join first (node m under rest))) → StartsAt k (tree_of (join first rest))
starts_less k end end m under starts sorted = tt
starts_less k end (node y c after) m under starts sorted = let up = sorted.0 in omega (arith, starts, up)
starts_less k (node x b after) rest m under starts sorted = starts

less_sorted : (first rest : Branches) (m : Numbered) (under : Branches) → IsSorted (tree_of (join first (node m under rest))) → IsSorted (tree_of (join first rest))
less_sorted end rest m under sorted = sorted.2
less_sorted (node x b after) rest m under sorted =
    (starts_less x.schema.0 after rest m under sorted.0 sorted.2, sorted.1, less_sorted after rest m under sorted.2)

-- behind a node of a row in order there is none of a smaller number
none_of : (k : ℕ) (f : Branches) (x : Numbered) (b : Branches) → k < x.schema.0 → IsSorted (tree_of (node x b f)) → instances_in (tree_of f) k ≡ 0
none_of k end x b less sorted = refl
none_of k (node y c after) x b less sorted =
    let up = sorted.0 in
    let more : k < y.schema.0 = omega (arith, less, up) in
    let count = found.instances-cons y c after k false (grind (arith, more)) in
    let rest = none_of k after y c more sorted.2 in
    omega (arith, count, rest)

put_last : (p : ℕ) (n : Numbered) (below : Branches) → put_at p n below end ≡ node n below end
put_last zero n below = refl
put_last (suc p) n below = refl

-- with so many of its schema node before it
behind : (count : ℕ) (n : Numbered) (below f : Branches) → IsSorted (tree_of f)
    → tree_of (with_node_at count n below f) ≡ with_branch_behind (record { label = stored_of n; below = tree_of below }) count (tree_of f)
behind count n below end sorted =
    ap tree_of (put_last (rows.first_place n.schema (children_of end) + min count (length (rows.of_schema n.schema (children_of end)))) n below)
behind count n below (node x b after) sorted =
    by count (ltb x.schema.0 n.schema.0) refl (eqb x.schema.0 n.schema.0) refl (λ c. behind c n below after sorted.2)
  where
    branch : Branch
    branch = record { label = stored_of n; below = tree_of below }

    place : ℕ → Branches → ℕ
    place c f = rows.first_place n.schema (children_of f) + min c (length (rows.of_schema n.schema (children_of f)))

    here : (p : ℕ) → p ≡ 0 → tree_of (put_at p n below (node x b after)) ≡ node (stored_of n) (tree_of below) (tree_of (node x b after))
    here p e = ap (λ j. tree_of (put_at j n below (node x b after))) e

    later : (k p : ℕ) → p ≡ suc k → tree_of (put_at p n below (node x b after)) ≡ node (stored_of x) (tree_of b) (tree_of (put_at k n below after))
    later k p e = ap (λ j. tree_of (put_at j n below (node x b after))) e

    first : (l : Bool) → ltb x.schema.0 n.schema.0 ≡ l
        → rows.first_place n.schema (children_of (node x b after)) ≡ cond l (1 + rows.first_place n.schema (children_of after)) 0
    first l e = ap (λ l. cond l (1 + rows.first_place n.schema (children_of after)) 0) e

    listed : (o : Bool) → eqb x.schema.0 n.schema.0 ≡ o
        → length (rows.of_schema n.schema (children_of (node x b after))) ≡ length (cond o (x.id ∷ rows.of_schema n.schema (children_of after)) (rows.of_schema n.schema (children_of after)))
    listed o e = ap length (found.of_schema-cons n.schema (child_of x) (children_of after) o e)

    goes : (count : ℕ) (g e z : Bool) → ltb n.schema.0 x.schema.0 ≡ g → eqb x.schema.0 n.schema.0 ≡ e → eqb count 0 ≡ z → goes_before n.schema.0 count (stored_of x) ≡ (g || (e && z))
    goes count g e z is_g is_e is_z =
        ap (λ g. g || (eqb x.schema.0 n.schema.0 && eqb count 0)) is_g
        ∙ (ap (λ e. g || (e && eqb count 0)) is_e
        ∙ ap (λ z. g || (e && z)) is_z)

    put_behind : (count : ℕ) (g o : Bool) → goes_before n.schema.0 count (stored_of x) ≡ g → eqb x.schema.0 n.schema.0 ≡ o
        → with_branch_behind branch count (tree_of (node x b after))
        ≡ cond g (node (stored_of n) (tree_of below) (tree_of (node x b after))) (node (stored_of x) (tree_of b) (with_branch_behind branch (cond o (count - 1) count) (tree_of after)))
    put_behind count g o is_g is_o =
        ap (λ g. cond g (node (stored_of n) (tree_of below) (tree_of (node x b after)))
        (node (stored_of x) (tree_of b) (with_branch_behind branch (cond (eqb x.schema.0 n.schema.0) (count - 1) count) (tree_of after)))) is_g
        ∙ ap (λ o. cond g (node (stored_of n) (tree_of below) (tree_of (node x b after)))
        (node (stored_of x) (tree_of b) (with_branch_behind branch (cond o (count - 1) count) (tree_of after)))) is_o

    by : (count : ℕ) (l : Bool) → ltb x.schema.0 n.schema.0 ≡ l → (o : Bool) → eqb x.schema.0 n.schema.0 ≡ o
        → ((c : ℕ) → tree_of (with_node_at c n below after) ≡ with_branch_behind branch c (tree_of after))
        → tree_of (with_node_at count n below (node x b after)) ≡ with_branch_behind branch count (tree_of (node x b after))
    by count true e o same inner =
        let less = ltb-true x.schema.0 n.schema.0 e in
        let differs : eqb x.schema.0 n.schema.0 ≡ false = grind (arith, less) in
        let turned : ltb n.schema.0 x.schema.0 ≡ false = grind (arith, less) in
        let start = first true e in
        let count_is = listed false differs in
        let at : place count (node x b after) ≡ suc (place count after) = omega (arith, start, count_is) in
        later (place count after) (place count (node x b after)) at
        ∙ (ap (node (stored_of x) (tree_of b)) (inner count)
        ∙ sym (put_behind count false false (goes count false false (eqb count 0) turned differs refl) differs))
    by zero false e true same inner =
        let start = first false e in
        let at : place zero (node x b after) ≡ 0 = omega (arith, start) in
        let is = eqb-true x.schema.0 n.schema.0 same in
        let turned : ltb n.schema.0 x.schema.0 ≡ false = grind (arith, is) in
        here (place zero (node x b after)) at
        ∙ sym (put_behind zero true true (goes zero false true true turned same refl) same)
    by (suc c) false e true same inner =
        let start = first false e in
        let count_is = listed true same in
        let is = eqb-true x.schema.0 n.schema.0 same in
        let turned : ltb n.schema.0 x.schema.0 ≡ false = grind (arith, is) in
        let none = none_less n.schema after x.schema.0 (omega (arith, is)) b x refl sorted in
        let at : place (suc c) (node x b after) ≡ suc (place c after) = omega (arith, start, count_is, none) in
        let less : suc c - 1 ≡ c = omega arith in
        let some : eqb (suc c) 0 ≡ false = grind arith in
        later (place c after) (place (suc c) (node x b after)) at
        ∙ (ap (node (stored_of x) (tree_of b)) (inner c ∙ ap (λ k. with_branch_behind branch k (tree_of after)) (sym less))
        ∙ sym (put_behind (suc c) false true (goes (suc c) false true false turned same some) same))
    by count false e false other inner =
        let start = first false e in
        let count_is = listed false other in
        let least = ltb-false x.schema.0 n.schema.0 e in
        let more : n.schema.0 < x.schema.0 = grind (arith, least, other) in
        let turned : ltb n.schema.0 x.schema.0 ≡ true = grind (arith, more) in
        let all = found.counted n.schema after in
        let none = none_of n.schema.0 after x b more sorted in
        let at : place count (node x b after) ≡ 0 = omega (arith, start, count_is, all, none) in
        here (place count (node x b after)) at
        ∙ sym (put_behind count true false (goes count true false (eqb count 0) turned other refl) other)

pub moved : (step : Step) (position : ℕ) (first rest : Branches) (m : Numbered) (under : Branches) → IsSorted (tree_of (join first (node m under rest)))
    → m.schema.0 ≡ step.schema_number → instances_in (tree_of first) step.schema_number ≡ instance_index step
    → with_moved step position (tree_of (join first (node m under rest))) ≡ tree_of (with_node_at (position - 1) m under (join first rest))
moved step position first rest m under sorted same count =
    let row = tree_of (join first (node m under rest)) in
    ap (λ o. option_map_or (moved_branch step position row) o row)
    (ap (instance_branch step.schema_number (instance_index step)) (tree_join first (node m under rest))
    ∙ branch_is step.schema_number (instance_index step) (tree_of first) (stored_of m) (tree_of under) (tree_of rest) same count)
    ∙ (ap (with_branch_behind (record { label = stored_of m; below = tree_of under }) (position - 1)) (taken step first rest m under same count)
    ∙ sym (behind (position - 1) m under (join first rest) (less_sorted first rest m under sorted)))
