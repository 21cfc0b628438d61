-- Rows whose schema numbers ascend.
use Rattle.std.proofs.Common.{◌≡◌, ℕ, zero, suc, ◌+◌, ◌-◌, ◌<◌, ◌≤◌, Bool, true, false, cond, List, [], ◌∷◌, length, get_or, set, take, drop, refl, sym, subst, ap, ◌∙◌, arith, ltb, leb, eqb, map, filter, insert, remove, min, not, slice_get, option_map, Some, None, zero-add, suc-add, one-add, length-drop}
use Rattle.std.specs.List.{list_all, prefix_len}
use Rattle.std.specs.Option.{option_map_or}
use Rattle.std.specs.List.Sorted.{IsNonDecreasingBy, IsPartitionPoint}
use Rattle.std.proofs.lemmas.Bool.{and_parts, and_from, leb-true, leb-false, ltb-true, ltb-false, le-leb, le-ltb, lt-ltb, eq-eqb, ne_eqb, eqb-true, eqb-false}
use Rattle.std.proofs.lemmas.List.Sums.{prefix_len_is, prefix_len-le-length, passes_at_first}
use Rattle.std.proofs.lemmas.List.{length-take-le, length-map}
use Rattle.std.proofs.lemmas.Option.{slice_get-map, slice_get_past, none-some, same_Some}
use Rattle.yschema_model.specs.declared.node.SchemaId.{SchemaId}
use Rattle.ystore_rows.specs.Rows.{Child, ascends, first_place, end_place, of_schema, place_of, place_at, shifted, is_child, added, brought, put}
use Rattle.ystore_rows.specs.Places as places
use Rattle.ystore_rows.specs.declared.row.NodeId.{NodeId}

abbrev pub number : Child → ℕ
number c = c.0.0

no_child : Child
no_child = (record { 0 = 0 }, record { 0 = 0 })

-- none behind a child has a number less than its
abbrev follow : Child → List Child → Bool
follow c cs = list_all (λ d. leb c.0.0 d.0.0) cs

-- ---- by index

follow_at : (c : Child) (cs : List Child) (k : ℕ) (d : Child) → follow c cs ≡ true → k < length cs → number c ≤ number (get_or cs k d)
follow_at c [] k d all within = absurd (omega (arith, within))
follow_at c (x ∷ cs) zero d all within = leb-true (number c) (number x) (and_parts (leb (number c) (number x)) (follow c cs) all).0
follow_at c (x ∷ cs) (suc k) d all within = follow_at c cs k d (and_parts (leb (number c) (number x)) (follow c cs) all).1 (omega (arith, within))

pub ascends_by_index : (row : List Child) → ascends row ≡ true → IsNonDecreasingBy number row
ascends_by_index [] all i j d before within = absurd (omega (arith, within))
ascends_by_index (c ∷ cs) all zero zero d before within = omega arith
ascends_by_index (c ∷ cs) all zero (suc j) d before within = follow_at c cs j d (and_parts (follow c cs) (ascends cs) all).0 (omega (arith, within))
ascends_by_index (c ∷ cs) all (suc i) zero d before within = absurd (omega (arith, before))
ascends_by_index (c ∷ cs) all (suc i) (suc j) d before within =
    ascends_by_index cs (and_parts (follow c cs) (ascends cs) all).1 i j d (omega (arith, before)) (omega (arith, within))

-- a partition point is the length of the prefix that passes
pub partition_is : (p : Child → Bool) (row : List Child) (i : ℕ) → i ≤ length row
    → IsPartitionPoint (λ y. p y ≡ true) (λ y. p y ≡ false) row i → i ≡ prefix_len p row
partition_is p row i within parts =
    sym (prefix_len_is p row i no_child within (λ k below. parts.0 k no_child (omega arith) below) (λ more. parts.1 i no_child (omega arith) more))

-- ---- places of a schema node

follow_from : (m : ℕ) (c : Child) (cs : List Child) → m ≤ number c → follow c cs ≡ true → list_all (λ d. leb m d.0.0) cs ≡ true
follow_from m c [] less all = refl
follow_from m c (x ∷ cs) less all =
    let parts = and_parts (leb (number c) (number x)) (follow c cs) all in
    let here = leb-true (number c) (number x) parts.0 in
    and_from (leb m (number x)) (list_all (λ d. leb m d.0.0) cs) (le-leb m (number x) (omega (arith, here, less))) (follow_from m c cs less parts.1)

first_is_start : (s : SchemaId) (cs : List Child) → list_all (λ d. leb s.0 d.0.0) cs ≡ true → first_place s cs ≡ 0
first_is_start s [] all = refl
first_is_start s (x ∷ cs) all =
    let here = leb-true s.0 (number x) (and_parts (leb s.0 (number x)) (list_all (λ d. leb s.0 d.0.0) cs) all).0 in
    rw (le-ltb (number x) s.0 here) refl

none_above : (s : SchemaId) (c : Child) (cs : List Child) → s.0 < number c → follow c cs ≡ true → filter (λ d. eqb d.0.0 s.0) cs ≡ []
none_above s c [] less all = refl
none_above s c (x ∷ cs) less all =
    let parts = and_parts (leb (number c) (number x)) (follow c cs) all in
    let here = leb-true (number c) (number x) parts.0 in
    rw (ne_eqb (number x) s.0 (λ same. absurd (omega (arith, here, less, same)))) (none_above s c cs less parts.1)

none_less : (n : ℕ) → n - 0 ≡ n
none_less n = omega arith

-- those of a schema node stand together
abbrev together : SchemaId → List Child → List Child
together s row = take (end_place s row - first_place s row) (drop (first_place s row) row)

pub together_is : (s : SchemaId) (row : List Child) → ascends row ≡ true → filter (λ d. eqb d.0.0 s.0) row ≡ together s row
together_is s [] all = refl
together_is s (c ∷ cs) all =
    by (together_is s cs (and_parts (follow c cs) (ascends cs) all).1) (ltb (number c) s.0) refl (leb (number c) s.0) refl
  where
    parts : (follow c cs ≡ true) × (ascends cs ≡ true)
    parts = and_parts (follow c cs) (ascends cs) all

    by : (filter (λ d. eqb d.0.0 s.0) cs ≡ together s cs) → (is_less : Bool) → ltb (number c) s.0 ≡ is_less → (is_within : Bool) → leb (number c) s.0 ≡ is_within
        → filter (λ d. eqb d.0.0 s.0) (c ∷ cs) ≡ together s (c ∷ cs)
    by later true less true within =
        let first = first_place s cs in
        let end = end_place s cs in
        let apart : (1 + end) - (1 + first) ≡ end - first = omega arith in
        let under = ltb-true (number c) s.0 less in
        rw (ne_eqb (number c) s.0 (λ same. absurd (omega (arith, under, same))), less, within, apart) (later ∙ ap (λ n. take (end - first) (drop n (c ∷ cs))) (sym (one-add first)))
    by later true less false within =
        absurd (omega (arith, ltb-true (number c) s.0 less, leb-false (number c) s.0 within))
    by later false less true within =
        let above = ltb-false (number c) s.0 less in
        let below = leb-true (number c) s.0 within in
        let start = first_is_start s cs (follow_from s.0 c cs above parts.0) in
        let rest : filter (λ d. eqb d.0.0 s.0) cs ≡ take (end_place s cs) cs =
        later ∙ (ap (λ n. take (end_place s cs - n) (drop n cs)) start ∙ ap (λ n. take n cs) (none_less (end_place s cs))) in
        rw (eq-eqb (number c) s.0 (omega (arith, above, below)), less, within, none_less (1 + end_place s cs)) (ap (λ ds. c ∷ ds) rest ∙ ap (λ n. take n (c ∷ cs)) (sym (one-add (end_place s cs))))
    by later false less false within =
        let over = leb-false (number c) s.0 within in
        rw (ne_eqb (number c) s.0 (λ same. absurd (omega (arith, over, same))), less, within) (none_above s c cs over parts.0)

-- ---- rows that are changed

all_insert : (p : Child → Bool) (row : List Child) (i : ℕ) (y : Child) → list_all p row ≡ true → p y ≡ true → list_all p (insert row i y) ≡ true
all_insert p [] zero y all here = and_from (p y) true here refl
all_insert p [] (suc i) y all here = and_from (p y) true here refl
all_insert p (x ∷ row) zero y all here = and_from (p y) (list_all p (x ∷ row)) here all
all_insert p (x ∷ row) (suc i) y all here =
    let parts = and_parts (p x) (list_all p row) all in
    and_from (p x) (list_all p (insert row i y)) parts.0 (all_insert p row i y parts.1 here)

all_remove : (p : Child → Bool) (row : List Child) (i : ℕ) → list_all p row ≡ true → list_all p (remove row i) ≡ true
all_remove p [] zero all = refl
all_remove p [] (suc i) all = refl
all_remove p (x ∷ row) zero all = (and_parts (p x) (list_all p row) all).1
all_remove p (x ∷ row) (suc i) all =
    let parts = and_parts (p x) (list_all p row) all in
    and_from (p x) (list_all p (remove row i)) parts.0 (all_remove p row i parts.1)

all_set : (p : Child → Bool) (row : List Child) (i : ℕ) (y : Child) → list_all p row ≡ true → p y ≡ true → list_all p (set row i y) ≡ true
all_set p [] i y all here = refl
all_set p (x ∷ row) zero y all here = and_from (p y) (list_all p row) here (and_parts (p x) (list_all p row) all).1
all_set p (x ∷ row) (suc i) y all here =
    let parts = and_parts (p x) (list_all p row) all in
    and_from (p x) (list_all p (set row i y)) parts.0 (all_set p row i y parts.1 here)

pub ascends_remove : (row : List Child) (i : ℕ) → ascends row ≡ true → ascends (remove row i) ≡ true
ascends_remove [] zero all = refl
ascends_remove [] (suc i) all = refl
ascends_remove (c ∷ cs) zero all = (and_parts (follow c cs) (ascends cs) all).1
ascends_remove (c ∷ cs) (suc i) all =
    let parts = and_parts (follow c cs) (ascends cs) all in
    and_from (follow c (remove cs i)) (ascends (remove cs i)) (all_remove (λ d. leb c.0.0 d.0.0) cs i parts.0) (ascends_remove cs i parts.1)

-- a child in the place of one of the same schema node
pub ascends_set : (row : List Child) (i : ℕ) (y d : Child) → i < length row → number (get_or row i d) ≡ number y → ascends row ≡ true → ascends (set row i y) ≡ true
ascends_set [] i y d within same all = refl
ascends_set (c ∷ cs) zero y d within same all =
    let parts = and_parts (follow c cs) (ascends cs) all in
    and_from (follow y cs) (ascends cs) (follow_from (number y) c cs (omega (arith, same)) parts.0) parts.1
ascends_set (c ∷ cs) (suc i) y d within same all =
    let parts = and_parts (follow c cs) (ascends cs) all in
    let near = follow_at c cs i d parts.0 (omega (arith, within)) in
    and_from (follow c (set cs i y)) (ascends (set cs i y))
    (all_set (λ e. leb c.0.0 e.0.0) cs i y parts.0 (le-leb (number c) (number y) (omega (arith, near, same))))
    (ascends_set cs i y d (omega (arith, within)) same parts.1)

-- a child between the first and the last of its schema node, or next to them
pub ascends_insert : (row : List Child) (i : ℕ) (y : Child) → first_place y.0 row ≤ i → i ≤ end_place y.0 row → ascends row ≡ true → ascends (insert row i y) ≡ true
ascends_insert [] zero y from upto all = refl
ascends_insert [] (suc i) y from upto all = refl
ascends_insert (c ∷ cs) zero y from upto all = by (ltb (number c) (number y)) refl
  where
    by : (is_less : Bool) → ltb (number c) (number y) ≡ is_less → ascends (y ∷ c ∷ cs) ≡ true
    by true less = absurd (omega (arith, subst_le (number c) (number y) less from))
      where
        subst_le : (a b : ℕ) → ltb a b ≡ true → cond (ltb a b) (1 + first_place y.0 cs) 0 ≤ 0 → 1 + first_place y.0 cs ≤ 0
        subst_le a b e h = rw e at h
    by false less =
        let parts = and_parts (follow c cs) (ascends cs) all in
        let above = ltb-false (number c) (number y) less in
        and_from (follow y (c ∷ cs)) (ascends (c ∷ cs))
        (and_from (leb (number y) (number c)) (follow y cs) (le-leb (number y) (number c) above) (follow_from (number y) c cs above parts.0)) all
ascends_insert (c ∷ cs) (suc i) y from upto all =
    by (λ first end. ascends_insert cs i y first end (and_parts (follow c cs) (ascends cs) all).1) (leb (number c) (number y)) refl
  where
    parts : (follow c cs ≡ true) × (ascends cs ≡ true)
    parts = and_parts (follow c cs) (ascends cs) all

    within_end : (b : Bool) → b ≡ true → suc i ≤ cond b (1 + end_place y.0 cs) 0 → i ≤ end_place y.0 cs
    within_end true e h = omega (arith, h)
    within_end false e h = absurd (omega (arith, h))

    behind_first : (b : Bool) → ltb (number c) (number y) ≡ b → cond b (1 + first_place y.0 cs) 0 ≤ suc i → first_place y.0 cs ≤ i
    behind_first true e h = omega (arith, h)
    behind_first false e h =
        omega (arith, first_is_start y.0 cs (follow_from (number y) c cs (ltb-false (number c) (number y) e) parts.0))

    by : (first_place y.0 cs ≤ i → i ≤ end_place y.0 cs → ascends (insert cs i y) ≡ true)
        → (is_within : Bool) → leb (number c) (number y) ≡ is_within → ascends (c ∷ insert cs i y) ≡ true
    by later true within =
        let below = leb-true (number c) (number y) within in
        and_from (follow c (insert cs i y)) (ascends (insert cs i y))
        (all_insert (λ e. leb c.0.0 e.0.0) cs i y parts.0 within)
        (later (behind_first (ltb (number c) (number y)) refl from) (within_end (leb (number c) (number y)) within upto))
    by later false within = absurd (omega (arith, past (leb (number c) (number y)) within upto))
      where
        past : (b : Bool) → b ≡ false → suc i ≤ cond b (1 + end_place y.0 cs) 0 → suc i ≤ 0
        past b e h = rw e at h

-- ---- the nodes of a schema node

pub first_before_end : (s : SchemaId) (row : List Child) → first_place s row ≤ end_place s row
first_before_end s [] = omega arith
first_before_end s (c ∷ cs) = by (first_before_end s cs) (ltb (number c) s.0) refl (leb (number c) s.0) refl
  where
    by : first_place s cs ≤ end_place s cs → (is_less : Bool) → ltb (number c) s.0 ≡ is_less → (is_within : Bool) → leb (number c) s.0 ≡ is_within
        → cond (ltb (number c) s.0) (1 + first_place s cs) 0 ≤ cond (leb (number c) s.0) (1 + end_place s cs) 0
    by later true less true within = rw (less, within) (omega (arith, later))
    by later true less false within = absurd (omega (arith, ltb-true (number c) s.0 less, leb-false (number c) s.0 within))
    by later false less is_within within = rw less (omega arith)

taken_at : (n k : ℕ) (row : List Child) → k < n → slice_get (take n row) k ≡ slice_get row k
taken_at zero k row below = absurd (omega (arith, below))
taken_at (suc n) k [] below = refl
taken_at (suc n) zero (c ∷ cs) below = refl
taken_at (suc n) (suc k) (c ∷ cs) below = taken_at n k cs (omega (arith, below))

dropped_at : (n k : ℕ) (row : List Child) → slice_get (drop n row) k ≡ slice_get row (n + k)
dropped_at zero k row = ap (slice_get row) (sym (zero-add k))
dropped_at (suc n) k [] = refl
dropped_at (suc n) k (c ∷ cs) = dropped_at n k cs ∙ ap (slice_get (c ∷ cs)) (sym (suc-add n k))

pub count_is : (s : SchemaId) (row : List Child) → ascends row ≡ true → end_place s row - first_place s row ≡ length (of_schema s row)
count_is s row all =
    let first = first_place s row in
    let end = end_place s row in
    let whole = prefix_len-le-length (λ c. leb c.0.0 s.0) row in
    let long : length (take (end - first) (drop first row)) ≡ end - first =
    length-take-le (end - first) (drop first row) (omega (arith, length-drop first row, whole)) in
    sym (length-map (filter (λ c. eqb c.0.0 s.0) row) (λ c. c.1) ∙ (ap length (together_is s row all) ∙ long))

pub found_among : (s : SchemaId) (row : List Child) (k : ℕ) → ascends row ≡ true → k < end_place s row - first_place s row
    → option_map (λ c. c.1) (slice_get row (first_place s row + k)) ≡ slice_get (of_schema s row) k
found_among s row k all within =
    let first = first_place s row in
    let there : slice_get (filter (λ c. eqb c.0.0 s.0) row) k ≡ slice_get row (first + k) =
    ap (λ cs. slice_get cs k) (together_is s row all)
    ∙ (taken_at (end_place s row - first) k (drop first row) within ∙ dropped_at first k row) in
    ap (option_map (λ c. c.1)) (sym there) ∙ sym (slice_get-map (λ c. c.1) (filter (λ c. eqb c.0.0 s.0) row) k)

pub none_among : (s : SchemaId) (row : List Child) (k : ℕ) → ascends row ≡ true → end_place s row - first_place s row ≤ k
    → None ≡ slice_get (of_schema s row) k
none_among s row k all past = sym (slice_get_past (of_schema s row) k (omega (arith, count_is s row all, past)))

-- a child among those of its schema node
pub ascends_brought : (row : List Child) (y : Child) (place : ℕ) → ascends row ≡ true → ascends (brought y place row) ≡ true
ascends_brought row y place all =
    ascends_insert row (first_place y.0 row + min place (length (of_schema y.0 row))) y (omega arith)
    (omega (arith, count_is y.0 row all, first_before_end y.0 row)) all

pub ascends_added : (row : List Child) (y : Child) → ascends row ≡ true → ascends (added y row) ≡ true
ascends_added row y all = ascends_insert row (end_place y.0 row) y (first_before_end y.0 row) (omega arith) all

-- where a child is, it is the one at its place
number_at_place : (child : Child) (row : List Child) (d : Child) → place_of child row < length row → number (get_or row (place_of child row) d) ≡ number child
number_at_place child row d within =
    let there = passes_at_first (is_child child) row d within in
    let found = get_or row (place_of child row) d in
    eqb-true (number found) (number child) (and_parts (eqb (number found) (number child)) (eqb found.1.0 child.1.0) there).0

pub ascends_put : (child : Child) (node : NodeId) (row : List Child) → place_of child row < length row → ascends row ≡ true → ascends (put child node row) ≡ true
ascends_put child node row within all =
    ascends_set row (place_of child row) (child.0, node) no_child within (number_at_place child row no_child within) all

-- the place to which a child is brought
pub place_among_is : (s : SchemaId) (row : List Child) (place : ℕ) → ascends row ≡ true
    → (place < end_place s row - first_place s row → first_place s row + place ≡ first_place s row + min place (length (of_schema s row)))
    × (end_place s row - first_place s row ≤ place → end_place s row ≡ first_place s row + min place (length (of_schema s row)))
place_among_is s row place all =
    let many = count_is s row all in
    let order = first_before_end s row in (
      λ within. omega (arith, many, within),
      λ past. omega (arith, many, past, order),
    )

-- ---- the place of a node

pub first_is : (node : NodeId) (ids : List NodeId) (k : ℕ) → ((j : ℕ) → j < k → slice_get ids j ≡ Some node → ⊥) → slice_get ids k ≡ Some node
    → places.place_of node ids ≡ k
first_is node [] k before here = absurd (none-some node here)
first_is node (x ∷ ids) zero before here =
    ap (λ b. cond (not b) (1 + places.place_of node ids) 0) (eq-eqb x.0 node.0 (ap (λ (n : NodeId). n.0) (same_Some x node here)))
first_is node (x ∷ ids) (suc k) before here = by (eqb x.0 node.0) refl (first_is node ids k (λ j less. before (suc j) (omega (arith, less))) here)
  where
    by : (b : Bool) → eqb x.0 node.0 ≡ b → places.place_of node ids ≡ k → places.place_of node (x ∷ ids) ≡ suc k
    by true e rest = absurd (before zero (omega arith) (ap (λ (m : ℕ). let n : NodeId = record { 0 = m } in Some n) (eqb-true x.0 node.0 e)))
    by false e rest = ap (λ b. cond (not b) (1 + places.place_of node ids) 0) e ∙ (ap (λ m. 1 + m) rest ∙ one-add k)

pub none_is : (node : NodeId) (ids : List NodeId) → ((j : ℕ) → j < length ids → slice_get ids j ≡ Some node → ⊥) → places.place_of node ids ≡ length ids
none_is node [] none = refl
none_is node (x ∷ ids) none = by (eqb x.0 node.0) refl (none_is node ids (λ j less. none (suc j) (omega (arith, less))))
  where
    by : (b : Bool) → eqb x.0 node.0 ≡ b → places.place_of node ids ≡ length ids → places.place_of node (x ∷ ids) ≡ length (x ∷ ids)
    by true e rest = absurd (none zero (omega arith) (ap (λ (m : ℕ). let n : NodeId = record { 0 = m } in Some n) (eqb-true x.0 node.0 e)))
    by false e rest = ap (λ b. cond (not b) (1 + places.place_of node ids) 0) e ∙ (ap (λ m. 1 + m) rest ∙ one-add (length ids))

pub none_yet : (node : NodeId) (ids : List NodeId) (p : ℕ) → ((k : ℕ) → k < p → slice_get ids k ≡ Some node → ⊥) → (slice_get ids p ≡ Some node → ⊥)
    → (k : ℕ) → k < p + 1 → slice_get ids k ≡ Some node → ⊥
none_yet node ids p before here k less held = by (ltb k p) refl
  where
    by : (b : Bool) → ltb k p ≡ b → ⊥
    by true e = before k (ltb-true k p e) held
    by false e =
        let past = ltb-false k p e in
        let same : k ≡ p = omega (arith, past, less) in
        here (ap (slice_get ids) (sym same) ∙ held)

-- ---- the place of a child

at_start : (l n : ℕ) → 0 ≡ cond (ltb 0 (suc l)) (0 + 0) n
at_start l n = sym (ap (λ b. cond b (0 + 0) n) (lt-ltb 0 (suc l) (omega arith)))

one_more : (b : Bool) (f k n : ℕ) → 1 + cond b (f + k) n ≡ cond b ((1 + f) + k) (suc n)
one_more true f k n = omega arith
one_more false f k n = one-add n

one_further : (k l n : ℕ) → 1 + cond (ltb k l) (0 + k) n ≡ cond (ltb (1 + k) (suc l)) (0 + (1 + k)) (suc n)
one_further k l n = by (ltb k l) refl
  where
    by : (b : Bool) → ltb k l ≡ b → 1 + cond (ltb k l) (0 + k) n ≡ cond (ltb (1 + k) (suc l)) (0 + (1 + k)) (suc n)
    by true less = let under = ltb-true k l less in rw (less, lt-ltb (1 + k) (suc l) (omega (arith, under))) (omega arith)
    by false less = let over = ltb-false k l less in rw (less, le-ltb (1 + k) (suc l) (omega (arith, over))) (one-add n)

none_there : (node : NodeId) (f n : ℕ) (ids : List NodeId) → ids ≡ []
    → 1 + cond (ltb (places.place_of node ids) (length ids)) (f + places.place_of node ids) n
    ≡ cond (ltb (places.place_of node ids) (length ids)) (0 + places.place_of node ids) (suc n)
none_there node f n ids none =
    subst (λ (xs : List NodeId). 1 + cond (ltb (places.place_of node xs) (length xs)) (f + places.place_of node xs) n
    ≡ cond (ltb (places.place_of node xs) (length xs)) (0 + places.place_of node xs) (suc n)) (sym none) (one-add n)

-- a child that stands in the row stands behind those of lower schema nodes and those of its own before it
pub place_in_row : (child : Child) (row : List Child) → ascends row ≡ true
    → place_of child row ≡ cond (ltb (places.place_of child.1 (of_schema child.0 row)) (length (of_schema child.0 row)))
    (first_place child.0 row + places.place_of child.1 (of_schema child.0 row)) (length row)
place_in_row child [] all = refl
place_in_row child (c ∷ cs) all =
    by (place_in_row child cs parts.1) (eqb (number c) (number child)) refl (eqb c.1.0 child.1.0) refl (ltb (number c) (number child)) refl
  where
    parts : (follow c cs ≡ true) × (ascends cs ≡ true)
    parts = and_parts (follow c cs) (ascends cs) all

    index : ℕ
    index = places.place_of child.1 (of_schema child.0 cs)

    count : ℕ
    count = length (of_schema child.0 cs)

    first : ℕ
    first = first_place child.0 cs

    by : place_of child cs ≡ cond (ltb index count) (first + index) (length cs)
        → (is_same : Bool) → eqb (number c) (number child) ≡ is_same → (is_node : Bool) → eqb c.1.0 child.1.0 ≡ is_node
        → (is_less : Bool) → ltb (number c) (number child) ≡ is_less
        → place_of child (c ∷ cs) ≡ cond (ltb (places.place_of child.1 (of_schema child.0 (c ∷ cs))) (length (of_schema child.0 (c ∷ cs))))
        (first_place child.0 (c ∷ cs) + places.place_of child.1 (of_schema child.0 (c ∷ cs))) (length (c ∷ cs))
    by later false same is_node node true less =
        rw (same, less) (ap (λ n. 1 + n) later ∙ one_more (ltb index count) first index (length cs))
    by later false same is_node node false less =
        let above = ltb-false (number c) (number child) less in
        let none = none_above child.0 c cs (omega (arith, above, eqb-false (number c) (number child) same)) parts.0 in
        rw (same, less) (ap (λ n. 1 + n) later ∙ none_there child.1 first (length cs) (of_schema child.0 cs) (ap (map (λ c. c.1)) none))
    by later true same is_node node true less =
        absurd (omega (arith, ltb-true (number c) (number child) less, eqb-true (number c) (number child) same))
    by later true same true node false less = rw (same, node, less) (at_start count (suc (length cs)))
    by later true same false node false less =
        let start = first_is_start child.0 cs (follow_from (number child) c cs (omega (arith, eqb-true (number c) (number child) same)) parts.0) in
        rw (same, node, less) (ap (λ n. 1 + n) (later ∙ ap (λ f. cond (ltb index count) (f + index) (length cs)) start) ∙ one_further index count (length cs))

pub entry_within : (node : NodeId) (ids : List NodeId) → places.place_of node ids ≤ length ids
entry_within node ids = prefix_len-le-length (λ n. not (eqb n.0 node.0)) ids

-- no child of a row stands behind those of its schema node
pub within_end : (child : Child) (row : List Child) → ascends row ≡ true
    → first_place child.0 row + places.place_of child.1 (of_schema child.0 row) ≤ end_place child.0 row
within_end child row all =
    omega (arith, entry_within child.1 (of_schema child.0 row), count_is child.0 row all, first_before_end child.0 row)

-- the place that is found among those of its schema node
pub place_is : (child : Child) (row : List Child) → ascends row ≡ true
    → (first_place child.0 row + places.place_of child.1 (of_schema child.0 row) < end_place child.0 row
    → first_place child.0 row + places.place_of child.1 (of_schema child.0 row) ≡ place_of child row)
    × (end_place child.0 row ≤ first_place child.0 row + places.place_of child.1 (of_schema child.0 row) → length row ≡ place_of child row)
place_is child row all =
    let index = places.place_of child.1 (of_schema child.0 row) in
    let count = length (of_schema child.0 row) in
    let many = count_is child.0 row all in
    let order = first_before_end child.0 row in
    let is = place_in_row child row all in (
      λ within. sym (is ∙ ap (λ b. cond b (first_place child.0 row + index) (length row)) (lt-ltb index count (omega (arith, many, order, within)))),
      λ past. sym (is ∙ ap (λ b. cond b (first_place child.0 row + index) (length row)) (le-ltb index count (omega (arith, many, order, past)))),
    )

-- ---- the one at a place among those of a schema node

past_none : (k f n : ℕ) → n ≡ cond (ltb k 0) (f + k) n
past_none k f n = sym (ap (λ b. cond b (f + k) n) (le-ltb k 0 (omega arith)))

pub place_at_in_row : (s : SchemaId) (k : ℕ) (row : List Child) → ascends row ≡ true
    → place_at s k row ≡ cond (ltb k (length (of_schema s row))) (first_place s row + k) (length row)
place_at_in_row s k [] all = past_none k 0 0
place_at_in_row s k (c ∷ cs) all =
    by (λ j. place_at_in_row s j cs parts.1) (eqb (number c) s.0) refl (ltb (number c) s.0) refl
  where
    parts : (follow c cs ≡ true) × (ascends cs ≡ true)
    parts = and_parts (follow c cs) (ascends cs) all

    count : ℕ
    count = length (of_schema s cs)

    first : ℕ
    first = first_place s cs

    start : eqb (number c) s.0 ≡ true → first ≡ 0
    start same = first_is_start s cs (follow_from s.0 c cs (omega (arith, eqb-true (number c) s.0 same)) parts.0)

    none_left : (ids : List NodeId) → ids ≡ [] → 1 + cond (ltb k (length ids)) (first + k) (length cs) ≡ cond (ltb k (length ids)) (0 + k) (suc (length cs))
    none_left ids none =
        subst (λ (xs : List NodeId). 1 + cond (ltb k (length xs)) (first + k) (length cs) ≡ cond (ltb k (length xs)) (0 + k) (suc (length cs))) (sym none)
        (ap (λ n. 1 + n) (sym (past_none k first (length cs))) ∙ (one-add (length cs) ∙ past_none k 0 (suc (length cs))))

    inner : ((j : ℕ) → place_at s j cs ≡ cond (ltb j count) (first + j) (length cs)) → first ≡ 0 → (k : ℕ)
        → cond (eqb k 0) 0 (1 + place_at s (k - 1) cs) ≡ cond (ltb k (suc count)) (0 + k) (suc (length cs))
    inner later zero_first zero = at_start count (suc (length cs))
    inner later zero_first (suc j) =
        let less : suc j - 1 ≡ j = omega arith in
        let more : suc j ≡ 1 + j = omega arith in
        ap (λ b. cond b 0 (1 + place_at s (suc j - 1) cs)) (ne_eqb (suc j) 0 (λ same. absurd (omega (arith, same))))
        ∙ (ap (λ n. 1 + place_at s n cs) less
        ∙ (ap (λ n. 1 + n) (later j ∙ ap (λ f. cond (ltb j count) (f + j) (length cs)) zero_first)
        ∙ (one_further j count (length cs)
        ∙ ap (λ n. cond (ltb n (suc count)) (0 + n) (suc (length cs))) (sym more))))

    by : ((j : ℕ) → place_at s j cs ≡ cond (ltb j count) (first + j) (length cs))
        → (is_same : Bool) → eqb (number c) s.0 ≡ is_same → (is_less : Bool) → ltb (number c) s.0 ≡ is_less
        → place_at s k (c ∷ cs) ≡ cond (ltb k (length (of_schema s (c ∷ cs)))) (first_place s (c ∷ cs) + k) (length (c ∷ cs))
    by later true same true less = absurd (omega (arith, ltb-true (number c) s.0 less, eqb-true (number c) s.0 same))
    by later true same false less = rw (same, less) (inner later (start same) k)
    by later false same true less = rw (same, less) (ap (λ n. 1 + n) (later k) ∙ one_more (ltb k count) first k (length cs))
    by later false same false less =
        let above = ltb-false (number c) s.0 less in
        let none = none_above s c cs (omega (arith, above, eqb-false (number c) s.0 same)) parts.0 in
        rw (same, less) (ap (λ n. 1 + n) (later k) ∙ none_left (of_schema s cs) (ap (map (λ c. c.1)) none))

pub place_at_is : (s : SchemaId) (row : List Child) (k : ℕ) → ascends row ≡ true
    → (k < end_place s row - first_place s row → first_place s row + k ≡ place_at s k row)
    × (end_place s row - first_place s row ≤ k → length row ≡ place_at s k row)
place_at_is s row k all =
    let count = length (of_schema s row) in
    let many = count_is s row all in
    let is = place_at_in_row s k row all in (
      λ within. sym (is ∙ ap (λ b. cond b (first_place s row + k) (length row)) (lt-ltb k count (omega (arith, many, within)))),
      λ past. sym (is ∙ ap (λ b. cond b (first_place s row + k) (length row)) (le-ltb k count (omega (arith, many, past)))),
    )

-- the one at a place is brought to another
pub shifted_is : (s : SchemaId) (from to at : ℕ) (row : List Child) (child : Child)
    → at ≡ place_at s (min from (length (of_schema s row) - 1)) row → slice_get row at ≡ Some child
    → brought child to (remove row at) ≡ shifted s from to row
shifted_is s from to at row child is there =
    subst (λ (p : ℕ). brought child to (remove row at) ≡ option_map_or (λ c. brought c to (remove row p)) (slice_get row p) row) is
    (sym (ap (λ o. option_map_or (λ c. brought c to (remove row at)) o row) there))

pub none_shifted : (s : SchemaId) (from to at : ℕ) (row : List Child)
    → at ≡ place_at s (min from (length (of_schema s row) - 1)) row → length row ≤ at → row ≡ shifted s from to row
none_shifted s from to at row is past =
    subst (λ (p : ℕ). row ≡ option_map_or (λ c. brought c to (remove row p)) (slice_get row p) row) is
    (sym (ap (λ o. option_map_or (λ c. brought c to (remove row at)) o row) (slice_get_past row at past)))
