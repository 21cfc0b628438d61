-- What is found by its name is found by its number.
use Rattle.std.proofs.Common.{◌≡◌, ◌≢◌, ℕ, zero, suc, ◌+◌, ◌≤◌, length, take, drop, Bool, true, false, cond, ◌&&◌, ◌||◌, List, [], ◌∷◌, Option, Some, None, refl, sym, ap, ◌∙◌, arith}
use Rattle.std.specs.Prelude.{◌==◌, find, filter, option_map, unwrap_or, slice_get}
use Rattle.std.specs.List.{list_any}
use Rattle.std.proofs.lemmas.Bool.{eq-eqb, ne_eqb, lt-ltb}
use Rattle.std.proofs.lemmas.Bool.Decides.{nat_tests}
use Rattle.yspec.specs.linking.Planned as spec
use Rattle.yspec.specs.linking.Planned.{Planned, is_data, nodes_of}
use Rattle.yspec.specs.linking.SchemaNodes.{number_in}
use Rattle.ybase_preorder.specs.Layout.{labels_by}
use Rattle.ybase_preorder.specs.View.{slots_in}
use Rattle.ybase_preorder.specs.declared.slot.Slot.{Slot}
use Rattle.yschema_plan.specs.PlannedView.{planned_view}
use Rattle.yschema_plan.specs.Finding.{is_before}
use Rattle.yschema_plan.specs.PlanView.{view}
use Rattle.yschema_plan.specs.declared.plan.Plan.{Plan}
use Rattle.yschema_plan.specs.declared.planned.Planned as code
use Rattle.ybase_preorder.proofs.LabelLemmas.{label_at, length-labels}
use Rattle.yschema_plan.proofs.PlanLemmas.{nodes_are, node_at}

some_same : {X : Type 0} → (x y : X) → Some x ≡ Some y → x ≡ y
some_same x y e = ap (λ o. unwrap_or o x) e

numbers_from : (test : Planned → Bool) (k : ℕ) (rows : List (Slot code.Planned)) (q : Planned)
    → find test (labels_by planned_view k rows) ≡ Some q → k ≤ q.number
numbers_from test k [] q e = absurd cc
numbers_from test k (r ∷ rows) q e = by (numbers_from test (k + 1) rows q) (test (planned_view k r.label)) e
  where
    by : (find test (labels_by planned_view (k + 1) rows) ≡ Some q → k + 1 ≤ q.number) → (b : Bool) → cond b (Some (planned_view k r.label)) (find test (labels_by planned_view (k + 1) rows)) ≡ Some q → k ≤ q.number
    by more true h = let same = ap number_in (some_same (planned_view k r.label) q h) in omega (arith, same)
    by more false h = let behind = more h in omega (arith, behind)

pub none_before : (o : Option ℕ) (n : ℕ) → ((m : ℕ) → o ≡ Some m → n ≤ m) → is_before o n ≡ false
none_before None n h = refl
none_before (Some m) n h = let behind = h m refl in grind (arith, nat_tests)

not_before : (o : Option Planned) (n : ℕ) → ((q : Planned) → o ≡ Some q → n ≤ q.number) → is_before (option_map number_in o) n ≡ false
not_before None n h = refl
not_before (Some q) n h = let behind = h q refl in grind (arith, nat_tests)

-- whether one of the nodes before a number passes a test: the first that passes is one of them
pub earlier : (test : Planned → Bool) (k i n : ℕ) (rows : List (Slot code.Planned)) → n ≡ k + i
    → is_before (option_map number_in (find test (labels_by planned_view k rows))) n ≡ list_any test (labels_by planned_view k (take i rows))
earlier test k zero n rows e =
    not_before (find test (labels_by planned_view k rows)) n (λ q is. let behind = numbers_from test k rows q is in omega (arith, behind))
earlier test k (suc i) n [] e = refl
earlier test k (suc i) n (r ∷ rows) e = by (test (planned_view k r.label)) (earlier test (k + 1) i n rows (omega arith))
  where
    rest : Option Planned
    rest = find test (labels_by planned_view (k + 1) rows)

    by : (b : Bool) → is_before (option_map number_in rest) n ≡ list_any test (labels_by planned_view (k + 1) (take i rows))
        → is_before (option_map number_in (cond b (Some (planned_view k r.label)) rest)) n ≡ (b || list_any test (labels_by planned_view (k + 1) (take i rows)))
    by true h = lt-ltb k n (omega arith)
    by false h = h

found_again : (test : Planned → Bool) (k : ℕ) (rows : List (Slot code.Planned)) (q : Planned)
    → find test (labels_by planned_view k rows) ≡ Some q → find (λ p. p.number == q.number) (labels_by planned_view k rows) ≡ Some q
found_again test k [] q e = absurd cc
found_again test k (r ∷ rows) q e = by (found_again test (k + 1) rows q) (test (planned_view k r.label)) e
  where
    first : Planned
    first = planned_view k r.label

    rest : Option Planned
    rest = find (λ p. p.number == q.number) (labels_by planned_view (k + 1) rows)

    by : (find test (labels_by planned_view (k + 1) rows) ≡ Some q → rest ≡ Some q) → (b : Bool)
        → cond b (Some first) (find test (labels_by planned_view (k + 1) rows)) ≡ Some q
        → cond (k == q.number) (Some first) rest ≡ Some q
    by more true h =
        let same = some_same first q h in
        let here : k ≡ q.number = ap number_in same in
        ap (λ b. cond b (Some first) rest) (eq-eqb k q.number here) ∙ ap Some same
    by more false h =
        let behind = numbers_from test (k + 1) rows q h in
        let other : k ≢ q.number = omega (arith, behind) in
        ap (λ b. cond b (Some first) rest) (ne_eqb k q.number other) ∙ more h

-- the node of the number of one that is found
pub found_stands : (plan : Plan) (test : Planned → Bool) (q : Planned) → find test (nodes_of (view plan)) ≡ Some q → spec.node_of (view plan) q.number ≡ Some q
found_stands plan test q e =
    ap (find (λ p. p.number == q.number)) (nodes_are plan)
    ∙ found_again test 0 (slots_in plan.table) q (sym (ap (find test) (nodes_are plan)) ∙ e)

pub by_number : (plan : Plan) (test : Planned → Bool) (n : ℕ) (found : Option Planned) → found ≡ find test (nodes_of (view plan))
    → Some n ≡ option_map number_in found → spec.node_of (view plan) n ≡ found
by_number plan test n None e some = absurd cc
by_number plan test n (Some q) e some =
    ap (spec.node_of (view plan)) (some_same n q.number some) ∙ found_stands plan test q (sym e)

pub find-filter : {X : Type 0} (kept test : X → Bool) (xs : List X) → find test (filter kept xs) ≡ find (λ x. kept x && test x) xs
find-filter kept test [] = refl
find-filter kept test (x ∷ xs) = by (kept x) (find-filter kept test xs)
  where
    by : (b : Bool) → find test (filter kept xs) ≡ find (λ y. kept y && test y) xs
        → find test (cond b (x ∷ filter kept xs) (filter kept xs)) ≡ cond (b && test x) (Some x) (find (λ y. kept y && test y) xs)
    by true h = ap (cond (test x) (Some x)) h
    by false h = h

-- ---- one after another

pub stands_at : (p : Plan) (n : ℕ) → spec.node_of (view p) n ≡ slice_get (nodes_of (view p)) n
stands_at p n =
    let none : 0 + n ≡ n = omega arith in
    node_at p n ∙ (ap (λ m. option_map (λ r. planned_view m r.label) (slice_get (slots_in p.table) n)) (sym none)
    ∙ (sym (label_at planned_view 0 (slots_in p.table) n) ∙ ap (λ nodes. slice_get nodes n) (sym (nodes_are p))))

pub drop_some : {X : Type 0} (xs : List X) (n : ℕ) (x : X) → slice_get xs n ≡ Some x → drop n xs ≡ x ∷ drop (n + 1) xs
drop_some [] zero x e = absurd cc
drop_some [] (suc n) x e = absurd cc
drop_some (y ∷ ys) zero x e =
    let one : 0 + 1 ≡ suc 0 = omega arith in
    ap (λ z. z ∷ ys) (some_same y x e) ∙ ap (λ m. x ∷ drop m (y ∷ ys)) (sym one)
drop_some (y ∷ ys) (suc n) x e =
    let more : suc n + 1 ≡ suc (n + 1) = omega arith in
    drop_some ys n x e ∙ ap (λ m. x ∷ drop m (y ∷ ys)) (sym more)

pub drop_none : {X : Type 0} (xs : List X) (n : ℕ) → slice_get xs n ≡ None → drop n xs ≡ []
drop_none [] zero e = refl
drop_none [] (suc n) e = refl
drop_none (y ∷ ys) zero e = absurd cc
drop_none (y ∷ ys) (suc n) e = drop_none ys n e

within_some : {X : Type 0} (xs : List X) (n : ℕ) (x : X) → slice_get xs n ≡ Some x → suc n ≤ length xs
within_some [] zero x e = absurd cc
within_some [] (suc n) x e = absurd cc
within_some (y ∷ ys) zero x e = omega arith
within_some (y ∷ ys) (suc n) x e = let behind = within_some ys n x e in omega (arith, behind)

-- the node of a number, if any, is the first from there on
pub first_from : (p : Plan) (n : ℕ) (q : Planned) → Some q ≡ spec.node_of (view p) n
    → drop n (nodes_of (view p)) ≡ q ∷ drop (n + 1) (nodes_of (view p))
first_from p n q e = drop_some (nodes_of (view p)) n q (sym (stands_at p n) ∙ sym e)

pub none_from : (p : Plan) (n : ℕ) → None ≡ spec.node_of (view p) n → drop n (nodes_of (view p)) ≡ []
none_from p n e = drop_none (nodes_of (view p)) n (sym (stands_at p n) ∙ sym e)

pub is_within : (p : Plan) (n : ℕ) (q : Planned) → Some q ≡ spec.node_of (view p) n → suc n ≤ length (slots_in p.table)
is_within p n q e =
    let here = within_some (nodes_of (view p)) n q (sym (stands_at p n) ∙ sym e) in
    let count : length (nodes_of (view p)) ≡ length (slots_in p.table) = ap length (nodes_are p) ∙ length-labels planned_view 0 (slots_in p.table) in
    omega (arith, here, count)
