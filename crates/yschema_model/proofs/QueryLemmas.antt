-- What is found in a forest by its number, from the slots that it lies in.
use Rattle.std.proofs.Common.{◌≡◌, ℕ, zero, suc, ◌+◌, ◌-◌, ◌≤◌, ◌≢◌, Bool, true, cond, not, ◌&&◌, min, List, [], ◌∷◌, ◌++◌, length, take, drop, map, Option, Some, None, refl, sym, ap, ap₂, ◌∙◌, arith, length-append, length-take, length-drop}
use Rattle.std.specs.Prelude.{◌==◌, option_map, find, slice_get, nat_le, nat_lt, position}
use Rattle.std.specs.List.{position_or_len}
use Rattle.std.proofs.lemmas.Bool.{eq-eqb, ne_eqb, le-leb, leb-true, and_parts, and_from}
use Rattle.std.proofs.lemmas.List.{take-append-drop, take_min, length-map}
use Rattle.std.proofs.lemmas.Option.{slice_get_past}
use Rattle.yspec.specs.Forest.{Forest, node, end, size, find_label, find_below}
use Rattle.yspec.specs.schema.Schema.{SchemaNode, module_at}
use Rattle.yspec.proofs.SchemaProofs.NodeLemmas.{Found, all_below, find_label-is, find_below-is}
use Rattle.yschema_model.specs.declared.children.Slot.{Slot}
use Rattle.yschema_model.specs.Layout.{node_view, places, laid, fits_within, schema_view, IsLaidOut}
use Rattle.yschema_model.specs.declared.schema.SchemaModule.{SchemaModule}
use Rattle.yschema_model.specs.View.{forest_within, forest_of}
use Rattle.yschema_model.proofs.RowLemmas.{forest_of-cons, no_node}
use Rattle.yschema_model.proofs.LayoutLemmas.{laid_parts}

-- ---- the same, slot by slot

unfoldable pub pairs : ℕ → List Slot → List Found
pairs k [] = []
pairs k (r ∷ slots) = (node_view k r.node, forest_of (k + 1) (take r.below slots)) ∷ pairs (k + 1) slots

-- no slot claims more slots below it than there are
is_short : List Slot → Bool
is_short [] = true
is_short (r ∷ slots) = nat_le r.below (length slots) && is_short slots

is_short-append : (xs ys : List Slot) → is_short xs ≡ true → is_short ys ≡ true → is_short (xs ++ ys) ≡ true
unfolding is_short
is_short-append [] ys e f = f
is_short-append (x ∷ xs) ys e f =
    let parts = and_parts (nat_le x.below (length xs)) (is_short xs) e in
    and_from (nat_le x.below (length (xs ++ ys))) (is_short (xs ++ ys))
    (le-leb x.below (length (xs ++ ys)) (omega (arith, leb-true x.below (length xs) parts.0, length-append xs ys)))
    (is_short-append xs ys parts.1 f)

is_short-fits : (n : ℕ) (slots : List Slot) → length slots ≤ n → fits_within n slots ≡ true → is_short slots ≡ true
unfolding is_short
is_short-fits zero [] h e = refl
is_short-fits zero (r ∷ slots) h e = absurd (omega arith)
is_short-fits (suc n) [] h e = refl
is_short-fits (suc n) (r ∷ slots) h e =
    let parts = and_parts (nat_le r.below (length slots)) (fits_within n (take r.below slots) && fits_within n (drop r.below slots)) e in
    let inner = and_parts (fits_within n (take r.below slots)) (fits_within n (drop r.below slots)) parts.1 in
    and_from (nat_le r.below (length slots)) (is_short slots) parts.0
    (ap is_short (sym (take-append-drop r.below slots))
    ∙ is_short-append (take r.below slots) (drop r.below slots)
    (is_short-fits n (take r.below slots) (omega (arith, length-take r.below slots)) inner.0)
    (is_short-fits n (drop r.below slots) (omega (arith, length-drop r.below slots)) inner.1))

take-append-within : (n : ℕ) (xs ys : List Slot) → n ≤ length xs → take n (xs ++ ys) ≡ take n xs
take-append-within zero xs ys h = refl
take-append-within (suc n) [] ys h = absurd (omega arith)
take-append-within (suc n) (x ∷ xs) ys h = ap (λ rest. x ∷ rest) (take-append-within n xs ys (omega arith))

pairs-append : (k : ℕ) (xs ys : List Slot) → is_short xs ≡ true → pairs k (xs ++ ys) ≡ pairs k xs ++ pairs (k + length xs) ys
unfolding pairs is_short
pairs-append k [] ys e = ap (λ n. pairs n ys) (omega arith)
pairs-append k (x ∷ xs) ys e =
    let parts = and_parts (nat_le x.below (length xs)) (is_short xs) e in
    let here : k + 1 + length xs ≡ k + suc (length xs) = omega arith in
    ap₂ (λ inner rest. (node_view k x.node, forest_of (k + 1) inner) ∷ rest)
    (take-append-within x.below xs ys (leb-true x.below (length xs) parts.0))
    (pairs-append (k + 1) xs ys parts.1 ∙ ap (λ n. pairs (k + 1) xs ++ pairs n ys) here)

pub all_below-forest : (n k : ℕ) (slots : List Slot) → length slots ≤ n → fits_within n slots ≡ true → all_below (forest_of k slots) ≡ pairs k slots
unfolding all_below pairs
all_below-forest zero k [] h e = ap all_below (no_node k [] refl)
all_below-forest zero k (r ∷ slots) h e = absurd (omega arith)
all_below-forest (suc n) k [] h e = ap all_below (no_node k [] refl)
all_below-forest (suc n) k (r ∷ slots) h e =
    let parts = and_parts (nat_le r.below (length slots)) (fits_within n (take r.below slots) && fits_within n (drop r.below slots)) e in
    let inner = and_parts (fits_within n (take r.below slots)) (fits_within n (drop r.below slots)) parts.1 in
    let front : length (take r.below slots) ≤ n = omega (arith, length-take r.below slots) in
    let back : length (drop r.below slots) ≤ n = omega (arith, length-drop r.below slots) in
    ap all_below (forest_of-cons k r slots)
    ∙ ap (λ rest. (node_view k r.node, forest_of (k + 1) (take r.below slots)) ∷ rest)
    (ap₂ (λ a b. a ++ b) (all_below-forest n (k + 1) (take r.below slots) front inner.0)
    (all_below-forest n (k + 1 + length (take r.below slots)) (drop r.below slots) back inner.1)
    ∙ (sym (pairs-append (k + 1) (take r.below slots) (drop r.below slots) (is_short-fits n (take r.below slots) front inner.0))
    ∙ ap (pairs (k + 1)) (take-append-drop r.below slots)))

found_at : (k j id : ℕ) (slots : List Slot) → id ≡ k + j
    → find (λ p. p.0.number == id) (pairs k slots) ≡ option_map (λ r. (node_view id r.node, forest_of (id + 1) (take r.below (drop (suc j) slots)))) (slice_get slots j)
unfolding pairs
found_at k j id [] e = refl
found_at k zero id (r ∷ slots) e =
    let same : k ≡ id = omega arith in
    ap (λ b. cond b (Some (node_view k r.node, forest_of (k + 1) (take r.below slots))) (find (λ p. p.0.number == id) (pairs (k + 1) slots))) (eq-eqb k id same)
    ∙ ap (λ n. Some (node_view n r.node, forest_of (n + 1) (take r.below slots))) same
found_at k (suc j) id (r ∷ slots) e =
    let other : k ≢ id = omega arith in
    ap (λ b. cond b (Some (node_view k r.node, forest_of (k + 1) (take r.below slots))) (find (λ p. p.0.number == id) (pairs (k + 1) slots))) (ne_eqb k id other)
    ∙ found_at (k + 1) j id slots (omega arith)

map_map : {X Y Z : Type 0} (f : Y → Z) (g : X → Y) (o : Option X) → option_map f (option_map g o) ≡ option_map (λ x. f (g x)) o
map_map f g (Some x) = refl
map_map f g None = refl

-- ---- the two questions

pub label_at : (slots : List Slot) (id : ℕ) → fits_within (length slots) slots ≡ true
    → find_label (λ n. n.number == id) (forest_of 0 slots) ≡ option_map (λ r. node_view id r.node) (slice_get slots id)
label_at slots id fits =
    find_label-is (λ n. n.number == id) (forest_of 0 slots)
    ∙ (ap (λ ps. option_map (λ p. p.0) (find (λ p. p.0.number == id) ps)) (all_below-forest (length slots) 0 slots (omega arith) fits)
    ∙ (ap (option_map (λ p. p.0)) (found_at 0 id id slots (omega arith))
    ∙ map_map (λ p. p.0) (λ r. (node_view id r.node, forest_of (id + 1) (take r.below (drop (suc id) slots)))) (slice_get slots id)))

pub below_at : (slots : List Slot) (id : ℕ) → fits_within (length slots) slots ≡ true
    → find_below (λ n. n.number == id) (forest_of 0 slots) ≡ option_map (λ r. forest_of (id + 1) (take r.below (drop (suc id) slots))) (slice_get slots id)
below_at slots id fits =
    find_below-is (λ n. n.number == id) (forest_of 0 slots)
    ∙ (ap (λ ps. option_map (λ p. p.1) (find (λ p. p.0.number == id) ps)) (all_below-forest (length slots) 0 slots (omega arith) fits)
    ∙ (ap (option_map (λ p. p.1)) (found_at 0 id id slots (omega arith))
    ∙ map_map (λ p. p.1) (λ r. (node_view id r.node, forest_of (id + 1) (take r.below (drop (suc id) slots)))) (slice_get slots id)))

-- ---- how many nodes there are

pub size_of_forest : (n k : ℕ) (slots : List Slot) → length slots ≤ n → size (forest_within n k slots) ≡ length slots
unfolding forest_within
size_of_forest zero k [] h = refl
size_of_forest zero k (r ∷ slots) h = absurd (omega arith)
size_of_forest (suc n) k [] h = refl
size_of_forest (suc n) k (r ∷ slots) h =
    let front = size_of_forest n (k + 1) (take r.below slots) (omega (arith, length-take r.below slots)) in
    let back = size_of_forest n (k + 1 + length (take r.below slots)) (drop r.below slots) (omega (arith, length-drop r.below slots)) in
    omega (arith, front, back, length-take r.below slots, length-drop r.below slots)

-- ---- slots that lie as a forest does

pub fits_laid : (f : Forest SchemaNode) (p : Option ℕ) (n k : ℕ) (slots : List Slot) → length slots ≤ n → laid k slots ≡ places p f → fits_within n slots ≡ true
fits_laid f p zero k [] h e = refl
fits_laid f p zero k (r ∷ slots) h e = absurd (omega arith)
fits_laid f p (suc n) k [] h e = refl
fits_laid end p (suc n) k (r ∷ slots) h e = absurd cc
fits_laid (node l below after) p (suc n) k (r ∷ slots) h e =
    let parts = laid_parts l below after p k r slots e in
    and_from (nat_le r.below (length slots)) (fits_within n (take r.below slots) && fits_within n (drop r.below slots))
    (le-leb r.below (length slots) parts.2)
    (and_from (fits_within n (take r.below slots)) (fits_within n (drop r.below slots))
    (fits_laid below (Some l.number) n (k + 1) (take r.below slots) (omega (arith, length-take r.below slots)) parts.0)
    (fits_laid after p n (k + 1 + length (take r.below slots)) (drop r.below slots) (omega (arith, length-drop r.below slots)) parts.1))

-- ---- the slots below one

pub rows_below : (slots from rest inner : List Slot) (first : Slot) (id b : ℕ) (below : Forest SchemaNode)
    → fits_within (length slots) slots ≡ true → from ≡ drop (min id (length slots)) slots → from ≡ first ∷ rest → b ≡ min first.below (length rest)
    → inner ≡ take b rest → below ≡ forest_of (id + 1) inner
    → Some below ≡ find_below (λ n. n.number == id) (forest_of 0 slots)
rows_below slots from rest inner first id b below fits from_is split b_is inner_is below_is =
    let some : suc (length rest) ≡ length slots - min id (length slots) = ap length (sym split ∙ from_is) ∙ length-drop (min id (length slots)) slots in
    let within : min id (length slots) ≡ id = omega (arith, some) in
    let here : drop id slots ≡ first ∷ rest = ap (λ n. drop n slots) (sym within) ∙ (sym from_is ∙ split) in
    let parts = drop_parts slots id first rest here in
    let taken : inner ≡ take first.below (drop (suc id) slots) = inner_is ∙ (ap (λ n. take n rest) b_is ∙ (take_min first.below rest ∙ ap (take first.below) (sym parts.1))) in
    ap Some (below_is ∙ ap (forest_of (id + 1)) taken)
    ∙ (sym (ap (option_map (λ r. forest_of (id + 1) (take r.below (drop (suc id) slots)))) parts.0) ∙ sym (below_at slots id fits))
  where
    drop_parts : (xs : List Slot) (i : ℕ) (y : Slot) (ys : List Slot) → drop i xs ≡ y ∷ ys → (slice_get xs i ≡ Some y) × (drop (suc i) xs ≡ ys)
    drop_parts [] zero y ys e = absurd cc
    drop_parts [] (suc i) y ys e = absurd cc
    drop_parts (x ∷ xs) zero y ys e = (cc, cc)
    drop_parts (x ∷ xs) (suc i) y ys e = drop_parts xs i y ys e

pub no_rows_below : (slots from : List Slot) (id : ℕ) → fits_within (length slots) slots ≡ true → from ≡ drop (min id (length slots)) slots → length from ≡ 0
    → None ≡ find_below (λ n. n.number == id) (forest_of 0 slots)
no_rows_below slots from id fits from_is empty =
    let none : length slots - min id (length slots) ≡ 0 = sym (length-drop (min id (length slots)) slots) ∙ (ap length (sym from_is) ∙ empty) in
    let past : length slots ≤ id = omega (arith, none) in
    sym (ap (option_map (λ r. forest_of (id + 1) (take r.below (drop (suc id) slots)))) (slice_get_past slots id past)) ∙ sym (below_at slots id fits)

pub laid_out_fits : (slots : List Slot) → IsLaidOut slots → fits_within (length slots) slots ≡ true
laid_out_fits slots laid_out = fits_laid (forest_of 0 slots) None (length slots) 0 slots (omega arith) laid_out

-- the module of a node
pub module_of_row : (modules : List SchemaModule) (slots : List Slot) (id : ℕ) → IsLaidOut slots
    → module_at (schema_view modules slots) (Some id) ≡ option_map (λ r. r.node.«module») (slice_get slots id)
module_of_row modules slots id laid_out =
    ap (option_map (λ n. n.module_number)) (label_at slots id (laid_out_fits slots laid_out)) ∙ map_map (λ n. n.module_number) (λ r. node_view id r.node) (slice_get slots id)

-- ---- the place of a module

position_or_len-map : {X Y : Type 0} (p : Y → Bool) (f : X → Y) (xs : List X) → position_or_len p (map f xs) ≡ position_or_len (λ x. p (f x)) xs
position_or_len-map p f [] = refl
position_or_len-map p f (x ∷ xs) = ap (λ n. cond (not (p (f x))) (1 + n) 0) (position_or_len-map p f xs)

pub position-map : {X Y : Type 0} (p : Y → Bool) (f : X → Y) (xs : List X) → position p (map f xs) ≡ position (λ x. p (f x)) xs
position-map p f xs = ap₂ (λ n k. cond (nat_lt n k) (Some n) None) (position_or_len-map p f xs) (length-map xs f)
