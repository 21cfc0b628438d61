-- What is found in a plan, by name and by number.
use Rattle.std.proofs.Common.{◌≡◌, ◌≢◌, ℕ, zero, suc, ◌+◌, ◌<◌, ◌≤◌, Bool, true, false, cond, ◌&&◌, List, [], ◌∷◌, ◌++◌, length, drop, get_or, map, Option, Some, None, refl, sym, ap, ap₂, ◌∙◌, arith}
use Rattle.std.specs.Prelude.{◌==◌, find, option_map, slice_get, unwrap_or}
use Rattle.std.proofs.lemmas.Option.{slice_get-get_or, slice_get-map}
use Rattle.std.specs.List.{list_any}
use Rattle.std.proofs.lemmas.Bool.{eq-eqb, ne_eqb}
use Rattle.yspec.specs.text.Text.{Text}
use Rattle.yspec.specs.schema.Breaks.{Break, least_from, when}
use Rattle.yspec.proofs.SchemaProofs.LeastLemmas.{least_of_both}
use Rattle.yspec.specs.linking.Planned as spec
use Rattle.yspec.specs.linking.Planned.{Planned, same_number, is_called, is_data, nodes_of, data_nodes}
use Rattle.yspec.specs.linking.SchemaNodes.{number_in}
use Rattle.yspec.specs.linking.NodeBreaks.{broken_at, is_like, doubled}
use Rattle.ybase_preorder.specs.Layout.{labels_by}
use Rattle.ybase_preorder.specs.View.{slots_in}
use Rattle.ybase_preorder.specs.declared.slot.Slot.{Slot}
use Rattle.ybase_preorder.proofs.LabelLemmas.{label_at, preorder_by}
use Rattle.ybase_index.specs.Index.{found, texts_of}
use Rattle.ybase_index.specs.Names.{text_in}
use Rattle.ybase_index.specs.declared.keys.Among.TheVariants.{Scope}
use Rattle.yschema_plan.specs.PlannedView.{planned_view}
use Rattle.yschema_plan.specs.Finding.{is_found, list_of, name_of}
use Rattle.yschema_plan.specs.PlanView.{view}
use Rattle.yschema_plan.specs.declared.plan.Plan.{Plan}
use Rattle.yschema_plan.specs.declared.planned.Planned as code

pub nodes_are : (p : Plan) → nodes_of (view p) ≡ list_of p.table
nodes_are p = preorder_by planned_view (slots_in p.table)

-- a name whose prefix names no module is no node's
pub nameless : (above : Planned → Option ℕ) (n : Option ℕ) (t : Text) (nodes : List Planned)
    → find (λ p. same_number n (above p) && is_called (record { module_number = None; name = t }) p) nodes ≡ None
nameless above n t [] = refl
nameless above n t (p ∷ ps) = by (same_number n (above p)) (nameless above n t ps)
  where
    rest : Option Planned
    rest = find (λ p. same_number n (above p) && is_called (record { module_number = None; name = t }) p) ps

    by : (b : Bool) → rest ≡ None → cond (b && false) (Some p) rest ≡ None
    by true h = h
    by false h = h

-- each node stands at its number
numbered_at : (k j n : ℕ) (rows : List (Slot code.Planned)) → n ≡ k + j
    → find (λ p. p.number == n) (labels_by planned_view k rows) ≡ option_map (λ r. planned_view n r.label) (slice_get rows j)
numbered_at k j n [] e = refl
numbered_at k zero n (r ∷ rows) e =
    let same : k ≡ n = omega arith in
    ap (λ b. cond b (Some (planned_view k r.label)) (find (λ p. p.number == n) (labels_by planned_view (k + 1) rows))) (eq-eqb k n same)
    ∙ ap (λ m. Some (planned_view m r.label)) same
numbered_at k (suc j) n (r ∷ rows) e =
    let other : k ≢ n = omega arith in
    ap (λ b. cond b (Some (planned_view k r.label)) (find (λ p. p.number == n) (labels_by planned_view (k + 1) rows))) (ne_eqb k n other)
    ∙ numbered_at (k + 1) j n rows (omega arith)

pub node_at : (p : Plan) (n : ℕ) → spec.node_of (view p) n ≡ option_map (λ r. planned_view n r.label) (slice_get (slots_in p.table) n)
node_at p n = ap (find (λ q. q.number == n)) (nodes_are p) ∙ numbered_at 0 n n (slots_in p.table) (omega arith)

-- ---- names that come twice

labels_after : (k : ℕ) (rows : List (Slot code.Planned)) (i : ℕ) (r : Slot code.Planned) → suc i ≤ length rows → r ≡ get_or rows i r
    → labels_by planned_view (k + i) (drop i rows) ≡ planned_view (k + i) r.label ∷ labels_by planned_view (k + suc i) (drop (suc i) rows)
labels_after k [] i r within is = absurd (omega arith)
labels_after k (x ∷ rows) zero r within is =
    let next : k + 0 + 1 ≡ k + 1 = omega arith in
    ap₂ (λ y n. planned_view (k + 0) y.label ∷ labels_by planned_view n rows) (sym is) next
labels_after k (x ∷ rows) (suc i) r within is =
    let here : k + suc i ≡ k + 1 + i = omega arith in
    let next : k + 1 + suc i ≡ k + suc (suc i) = omega arith in
    ap (λ n. labels_by planned_view n (drop i rows)) here
    ∙ (labels_after (k + 1) rows i r (omega arith) is
    ∙ ap₂ (λ m n. planned_view m r.label ∷ labels_by planned_view n (drop (suc i) rows)) (sym here) next)

pub labels_from : (rows : List (Slot code.Planned)) (i : ℕ) (r : Slot code.Planned) → suc i ≤ length rows → r ≡ get_or rows i r
    → labels_by planned_view i (drop i rows) ≡ planned_view i r.label ∷ labels_by planned_view (i + 1) (drop (i + 1) rows)
labels_from rows i r within is =
    let here : 0 + i ≡ i = omega arith in
    let next : 0 + suc i ≡ i + 1 = omega arith in
    let step : suc i ≡ i + 1 = omega arith in
    ap (λ n. labels_by planned_view n (drop i rows)) (sym here)
    ∙ (labels_after 0 rows i r within is
    ∙ (ap₂ (λ m n. planned_view m r.label ∷ labels_by planned_view n (drop (suc i) rows)) here next
    ∙ ap (λ n. planned_view i r.label ∷ labels_by planned_view (i + 1) (drop n rows)) step))

-- the least of those so far, with those that are left
pub next_told : (told next : Option Break) (before : List Planned) (p : Planned) (others : List Planned) (whole : Option Break)
    → next ≡ least_from told (when (list_any (is_like p) before) (broken_at 13 p))
    → least_from told (doubled before (p ∷ others)) ≡ whole → least_from next (doubled (before ++ p ∷ []) others) ≡ whole
next_told told next before p others whole is so =
    ap (λ t. least_from t (doubled (before ++ p ∷ []) others)) is
    ∙ (sym (least_of_both told (when (list_any (is_like p) before) (broken_at 13 p)) (doubled (before ++ p ∷ []) others)) ∙ so)

pub drop_past : {A : Type 0} (xs : List A) (i : ℕ) → length xs ≤ i → drop i xs ≡ []
drop_past [] zero past = refl
drop_past [] (suc i) past = refl
drop_past (x ∷ xs) zero past = absurd (omega arith)
drop_past (x ∷ xs) (suc i) past = drop_past xs i (omega arith)

-- the node of a row stands at its number
pub row_stands : (plan : Plan) (rows : List (Slot code.Planned)) (i : ℕ) (r : Slot code.Planned) → rows ≡ slots_in plan.table → i < length rows → r ≡ get_or rows i r
    → slice_get (nodes_of (view plan)) i ≡ Some (planned_view i r.label)
row_stands plan rows i r are within is =
    let from_start : 0 + i ≡ i = omega arith in
    let there : slice_get rows i ≡ Some r = slice_get-get_or rows i r within ∙ ap Some (sym is) in
    ap (λ nodes. slice_get nodes i) (nodes_are plan ∙ ap (labels_by planned_view 0) (sym are))
    ∙ (label_at planned_view 0 rows i
    ∙ (ap (option_map (λ x. planned_view (0 + i) x.label)) there ∙ ap (λ n. Some (planned_view n r.label)) from_start))

-- the first node that shares its names with the node of a number, and has its module and name
pub first_alike : (plan : Plan) (number m : ℕ) (p : Planned) → slice_get (nodes_of (view plan)) number ≡ Some p → m ≡ p.part.owner
    → found plan.index Scope p.scope m (text_in (texts_of plan.index) number)
    ≡ option_map number_in (find (is_found Scope p.scope p.part.owner (name_of p)) (nodes_of (view plan)))
first_alike plan number m p stands owner =
    let nodes = nodes_of (view plan) in
    let named : text_in (texts_of plan.index) number ≡ name_of p =
    ap (λ texts. text_in texts number) (plan.named ∙ ap (map name_of) (sym (nodes_are plan)))
    ∙ ap (λ o. unwrap_or o []) (slice_get-map name_of nodes number ∙ ap (option_map name_of) stands) in
    ap₂ (λ n t. found plan.index Scope p.scope n t) owner named
    ∙ (plan.indexed Scope p.scope p.part.owner (name_of p)
    ∙ ap (λ ps. option_map number_in (find (is_found Scope p.scope p.part.owner (name_of p)) ps)) (sym (nodes_are plan)))
