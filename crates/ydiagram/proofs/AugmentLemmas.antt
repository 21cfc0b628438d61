-- What is written of augments.
use Rattle.std.proofs.Common.{◌≡◌, ℕ, zero, suc, ◌+◌, ◌<◌, ◌≤◌, ◌≢◌, Bool, true, false, cond, not, ◌||◌, List, [], ◌∷◌, ◌++◌, take, codes, Option, Some, None, refl, sym, ap, ap₂, ◌∙◌, subst, arith, append_assoc}
use Rattle.std.specs.Prelude.{◌==◌, nat_le, nat_lt, slice_get, unwrap_or, filter, map}
use Rattle.std.specs.List.{flat_map, list_any}
use Rattle.std.specs.Option.{option_map_or}
use Rattle.std.proofs.lemmas.Bool.{eq-eqb, ne_eqb, eqb-true, leb-true, and_parts, ltb-true, ltb-false}
use Rattle.std.proofs.lemmas.List.{append-nil}
use Rattle.std.proofs.lemmas.List.Concat.{flat_map-append}
use Rattle.yspec.specs.Forest.{Forest, end, node, size, find_below, joined_below}
use Rattle.yspec.specs.text.Text.{Text}
use Rattle.yspec.specs.schema.Schema.{Schema, SchemaNode, Augment, node_at, children_of, child_in, way_to, ways}
use Rattle.yspec.specs.schema.Diagram as spec
use Rattle.yspec.specs.schema.Diagram.{those_of, part_text, augment_part, row_width, label_width, module_part, owned_by, diagram}
use Rattle.yspec.specs.schema.Schema.{module_name, module_prefix, augments_in}
use Rattle.yspec.specs.document.Fitting.{IsNumbered}
use Rattle.yspec_fit.specs.Fit.{ascends_from, all_ascend}
use Rattle.yschema_model.specs.Lookup.{alone, way_above}
use Rattle.yschema_model.specs.declared.children.Child.{Child}
use Rattle.yschema_model.specs.View.{label_of, below_of, child_view}
use Rattle.ydiagram.specs.View.{shown_in, starts_elsewhere, target_step, in_front, row_of, added_row, augments_written, row_written}
use Rattle.ydiagram.proofs.RowLemmas.{own_shown}

-- ---- ways to targets

last_target_step : (s : Schema) (o : Option SchemaNode) → flat_map (spec.step_text s) (alone o) ≡ option_map_or (spec.step_text s) o []
last_target_step s None = refl
last_target_step s (Some n) = append-nil (spec.step_text s n)

abbrev pub target_above : Schema → Option ℕ → Text
target_above s None = []
target_above s (Some parent) = flat_map (spec.step_text s) (way_to s parent)

steps_above : (s : Schema) (o : Option ℕ) → flat_map (spec.step_text s) (way_above s o) ≡ target_above s o
steps_above s None = refl
steps_above s (Some parent) = refl

-- the way to a target is that to the node above it, and its own step
pub target_parted : (s : Schema) (number : ℕ) (o : Option ℕ) → way_to s number ≡ way_above s o ++ alone (node_at s number)
    → target_above s o ++ target_step s number ≡ flat_map (spec.step_text s) (way_to s number)
target_parted s number o is =
    sym (ap (flat_map (spec.step_text s)) is
    ∙ (flat_map-append (spec.step_text s) (way_above s o) (alone (node_at s number))
    ∙ ap₂ (λ a b. a ++ b) (steps_above s o) (last_target_step s (node_at s number))))

pub target_step_parts : (s : Schema) (number : ℕ) (n : SchemaNode) (prefix name : Text) → Some n ≡ node_at s number
    → prefix ≡ module_prefix s n.module_number → name ≡ n.name → codes "/" ++ (prefix ++ (codes ":" ++ (name ++ []))) ≡ target_step s number
target_step_parts s number n prefix name is prefix_is name_is =
    ap (λ t. codes "/" ++ (prefix ++ (codes ":" ++ t))) (append-nil name)
    ∙ (ap₂ (λ p t. codes "/" ++ (p ++ (codes ":" ++ t))) prefix_is name_is
    ∙ ap (λ o. option_map_or (spec.step_text s) o []) is)

-- ---- whether a way begins elsewhere

begins : List SchemaNode → Bool
begins [] = false
begins (n ∷ ns) = true

AllBegin : List (List SchemaNode) → Type 0
AllBegin [] = Unit {0}
AllBegin (w ∷ ws) = (begins w ≡ true) × AllBegin ws

all_begin-append : (vs ws : List (List SchemaNode)) → AllBegin vs → AllBegin ws → AllBegin (vs ++ ws)
unfolding AllBegin
all_begin-append [] ws a b = b
all_begin-append (v ∷ vs) ws a b = (a.0, all_begin-append vs ws a.1 b)

begins_last : (above : List SchemaNode) (n : SchemaNode) → begins (above ++ n ∷ []) ≡ true
unfolding begins
begins_last [] n = refl
begins_last (m ∷ above) n = refl

ways_begin : (above : List SchemaNode) (f : Forest SchemaNode) → AllBegin (ways above f)
unfolding AllBegin
ways_begin above end = tt
ways_begin above (node n below after) =
    (begins_last above n, all_begin-append (ways (above ++ n ∷ []) below) (ways above after) (ways_begin (above ++ n ∷ []) below) (ways_begin above after))

begin_at : (ws : List (List SchemaNode)) (i : ℕ) (w : List SchemaNode) → AllBegin ws → slice_get ws i ≡ Some w → begins w ≡ true
unfolding AllBegin
begin_at [] i w all e = absurd cc
begin_at (v ∷ ws) zero w all e = let same : v ≡ w = cc in subst (λ u. begins u ≡ true) same all.0
begin_at (v ∷ ws) (suc i) w all e = begin_at ws i w all.1 e

none_later : (ws : List (List SchemaNode)) (i j : ℕ) → slice_get ws i ≡ None → i ≤ j → slice_get ws j ≡ None
none_later [] i j e h = refl
none_later (w ∷ ws) zero j e h = absurd cc
none_later (w ∷ ws) (suc i) zero e h = absurd (omega (arith, h))
none_later (w ∷ ws) (suc i) (suc j) e h = none_later ws i j e (omega (arith, h))

first_more : (w more : List SchemaNode) → begins w ≡ true → take 1 (w ++ more) ≡ take 1 w
unfolding begins
first_more [] more e = absurd cc
first_more (n ∷ w) more e = refl

abbrev pub is_other : ℕ → SchemaNode → Bool
is_other shown n = not (n.module_number == shown)

-- a node begins its way where that above it does
pub elsewhere_above : (s : Schema) (shown number parent : ℕ) → way_to s number ≡ way_above s (Some parent) ++ alone (node_at s number) → parent < number
    → starts_elsewhere s shown parent ≡ starts_elsewhere s shown number
elsewhere_above s shown number parent is less = by (slice_get (ways [] s.nodes) parent) refl
  where
    by : (o : Option (List SchemaNode)) → slice_get (ways [] s.nodes) parent ≡ o → starts_elsewhere s shown parent ≡ starts_elsewhere s shown number
    by None e =
        let none = none_later (ways [] s.nodes) parent number e (omega (arith, less)) in
        ap (λ p. list_any (is_other shown) (take 1 (unwrap_or p []))) (e ∙ sym none)
    by (Some w) e =
        let starts = begin_at (ways [] s.nodes) parent w (ways_begin [] s.nodes) e in
        let here : way_to s parent ≡ w = ap (λ p. unwrap_or p []) e in
        sym (ap (λ v. list_any (is_other shown) (take 1 v)) (is ∙ ap (λ v. v ++ alone (node_at s number)) here)
        ∙ ap (list_any (is_other shown)) (first_more w (alone (node_at s number)) starts)
        ∙ ap (λ v. list_any (is_other shown) (take 1 v)) (sym here))

or_none : (b : Bool) → b || false ≡ b
or_none true = refl
or_none false = refl

pub elsewhere_top : (s : Schema) (shown number : ℕ) (o : Option SchemaNode) → way_to s number ≡ [] ++ alone (node_at s number) → o ≡ node_at s number
    → option_map_or (is_other shown) o false ≡ starts_elsewhere s shown number
elsewhere_top s shown number o is found =
    sym (ap (λ v. list_any (is_other shown) (take 1 v)) (is ∙ ap alone (sym found)) ∙ by o)
  where
    by : (p : Option SchemaNode) → list_any (is_other shown) (take 1 (alone p)) ≡ option_map_or (is_other shown) p false
    by None = refl
    by (Some n) = or_none (is_other shown n)

-- ---- nodes by their numbers

all_none : (ks : List ℕ) → row_of end ks ≡ end
all_none [] = refl
all_none (k ∷ ks) = all_none ks

none_of : (f : Forest SchemaNode) → those_of [] f ≡ end
none_of end = refl
none_of (node n below after) = none_of after

-- a number before those of a row
no_child_before : (f : Forest SchemaNode) (j k : ℕ) → IsNumbered j f → k < j → child_in f k ≡ None
no_child_before end j k numbered less = refl
no_child_before (node n below after) j k numbered less =
    ap (λ b. cond b (Some (n, below)) (child_in after k)) (ne_eqb n.number k (λ e. absurd (omega (arith, numbered.0, less, e))))
    ∙ no_child_before after (j + 1 + size below) k numbered.2 (omega (arith, less))

no_number_before : (f : Forest SchemaNode) (j k : ℕ) (ks : List ℕ) → IsNumbered j f → k < j → those_of (k ∷ ks) f ≡ those_of ks f
no_number_before end j k ks numbered less = refl
no_number_before (node n below after) j k ks numbered less =
    ap₂ (λ b rest. cond (b || list_any (λ m. m == n.number) ks) (node n below rest) rest) (ne_eqb k n.number (λ e. absurd (omega (arith, numbered.0, less, e))))
    (no_number_before after (j + 1 + size below) k ks numbered.2 (omega (arith, less)))

-- a node before those of numbers
not_among : (ks : List ℕ) (least n : ℕ) → ascends_from least ks ≡ true → n < least → list_any (λ m. m == n) ks ≡ false
not_among [] least n e less = refl
not_among (k ∷ ks) least n e less =
    let parts = and_parts (nat_le least k) (ascends_from (suc k) ks) e in
    let from = leb-true least k parts.0 in
    ap₂ (λ a b. a || b) (ne_eqb k n (λ same. absurd (omega (arith, less, from, same)))) (not_among ks (suc k) n parts.1 (omega (arith, less, from)))

not_first : (n : SchemaNode) (below after : Forest SchemaNode) (ks : List ℕ) (least : ℕ) → ascends_from least ks ≡ true → n.number < least
    → row_of (node n below after) ks ≡ row_of after ks
not_first n below after [] least e less = refl
not_first n below after (k ∷ ks) least e less =
    let parts = and_parts (nat_le least k) (ascends_from (suc k) ks) e in
    let from = leb-true least k parts.0 in
    ap₂ (λ b rest. in_front (cond b (Some (n, below)) (child_in after k)) rest) (ne_eqb n.number k (λ same. absurd (omega (arith, less, from, same))))
    (not_first n below after ks (suc k) parts.1 (omega (arith, less, from)))

apart_by : (a b : ℕ) → (a == b) ≡ false → a ≢ b
apart_by a b other same = let clash : true ≡ false = sym (eq-eqb a b same) ∙ other in absurd cc

-- those of a row that have numbers which ascend, one after another
pub by_numbers : (f : Forest SchemaNode) (j : ℕ) (ks : List ℕ) (least : ℕ) → IsNumbered j f → ascends_from least ks ≡ true → those_of ks f ≡ row_of f ks
by_numbers end j ks least numbered e = sym (all_none ks)
by_numbers (node n below after) j [] least numbered e = none_of after
by_numbers (node n below after) j (k ∷ ks) least numbered e =
    by (nat_lt k n.number) refl (n.number == k) refl
    (by_numbers (node n below after) j ks (suc k) numbered parts.1)
    (by_numbers after (j + 1 + size below) ks (suc k) numbered.2 parts.1)
    (by_numbers after (j + 1 + size below) (k ∷ ks) least numbered.2 e)
  where
    parts : (nat_le least k ≡ true) × (ascends_from (suc k) ks ≡ true)
    parts = and_parts (nat_le least k) (ascends_from (suc k) ks) e

    by : (before : Bool) → nat_lt k n.number ≡ before → (here : Bool) → (n.number == k) ≡ here
        → those_of ks (node n below after) ≡ row_of (node n below after) ks → those_of ks after ≡ row_of after ks
        → those_of (k ∷ ks) after ≡ row_of after (k ∷ ks)
        → those_of (k ∷ ks) (node n below after) ≡ row_of (node n below after) (k ∷ ks)
    by true b here h fewer later other =
        let less = ltb-true k n.number b in
        no_number_before (node n below after) j k ks numbered (omega (arith, less, numbered.0))
        ∙ (fewer ∙ sym (ap (λ o. in_front o (row_of (node n below after) ks)) (no_child_before (node n below after) j k numbered (omega (arith, less, numbered.0)))))
    by false b true h fewer later other =
        let same : n.number ≡ k = eqb-true n.number k h in
        ap (λ t. cond (t || list_any (λ m. m == n.number) ks) (node n below (those_of (k ∷ ks) after)) (those_of (k ∷ ks) after)) (eq-eqb k n.number (sym same))
        ∙ (ap (node n below) (no_number_before after (j + 1 + size below) k ks numbered.2 (omega (arith, numbered.0, same)) ∙ later)
        ∙ sym (ap (λ t. in_front (cond t (Some (n, below)) (child_in after k)) (row_of (node n below after) ks)) h
        ∙ ap (node n below) (not_first n below after ks (suc k) parts.1 (omega (arith, same)))))
    by false b false h fewer later other =
        let from = ltb-false k n.number b in
        let apart : n.number ≢ k = apart_by n.number k h in
        let less : n.number < k = omega (arith, from, apart) in
        ap₂ (λ t u. cond (t || u) (node n below (those_of (k ∷ ks) after)) (those_of (k ∷ ks) after)) (ne_eqb k n.number (λ same. absurd (omega (arith, less, same))))
        (not_among ks (suc k) n.number parts.1 (omega (arith, less)))
        ∙ (other ∙ ap₂ (λ t rest. in_front t rest) (sym (ap (λ t. cond t (Some (n, below)) (child_in after k)) h))
        (sym (not_first n below after ks (suc k) parts.1 (omega (arith, less)))))

-- the row below a node is numbered, too
numbered_below : (test : SchemaNode → Bool) (f : Forest SchemaNode) (j : ℕ) → IsNumbered j f → (k : ℕ) × IsNumbered k (unwrap_or (find_below test f) end)
numbered_below test end j numbered = (0, tt)
numbered_below test (node n below after) j numbered =
    by (test n) (find_below test below) (numbered_below test below (j + 1) numbered.1) (numbered_below test after (j + 1 + size below) numbered.2)
  where
    by : (b : Bool) (o : Option (Forest SchemaNode)) → (k : ℕ) × IsNumbered k (unwrap_or o end) → (k : ℕ) × IsNumbered k (unwrap_or (find_below test after) end)
        → (k : ℕ) × IsNumbered k (unwrap_or (cond b (Some below) (joined_below o (find_below test after))) end)
    by true o inner rest = (j + 1, numbered.1)
    by false (Some g) inner rest = inner
    by false None inner rest = rest

pub added_are : (s : Schema) (a : Augment) → IsNumbered 0 s.nodes → ascends_from 0 a.nodes ≡ true → those_of a.nodes (children_of s a.target) ≡ added_row s a
added_are s a numbered e =
    let below = numbered_below (λ n. n.number == a.target) s.nodes 0 numbered in
    by_numbers (children_of s a.target) below.0 a.nodes 0 below.1 e

-- ---- an augment

pub augment_parts : (s : Schema) (shown : ℕ) (a : Augment) → IsNumbered 0 s.nodes → ascends_from 0 a.nodes ≡ true
    → part_text s shown (augment_part s a)
    ≡ (codes "\n  augment " ++ []) ++ (flat_map (spec.step_text s) (way_to s a.target) ++ ((codes ":" ++ (codes "\n" ++ [])) ++ row_written s shown (codes "    ") (added_row s a)))
augment_parts s shown a numbered e =
    let steps = flat_map (spec.step_text s) (way_to s a.target) in
    let lines = row_written s shown (codes "    ") (added_row s a) in
    ap (λ f. (codes "\n  augment " ++ (steps ++ codes ":")) ++ (codes "\n" ++ row_written s shown (codes "    ") f)) (added_are s a numbered e)
    ∙ ap (λ t. codes "\n  augment " ++ t) (append_assoc steps (codes ":") (codes "\n" ++ lines))

-- ---- the nodes that it adds, one by one

pub added_first : (f : Forest SchemaNode) (k : ℕ) (ks : List ℕ) (c : Child) → Some (child_view c) ≡ child_in f k
    → row_of f (k ∷ ks) ≡ node (label_of c) (below_of c) (row_of f ks)
added_first f k ks c is = ap (λ o. in_front o (row_of f ks)) (sym is)

pub added_none : (f : Forest SchemaNode) (k : ℕ) (ks : List ℕ) → None ≡ child_in f k → row_of f (k ∷ ks) ≡ row_of f ks
added_none f k ks is = ap (λ o. in_front o (row_of f ks)) (sym is)

-- ---- several augments

pub augments_first : (s : Schema) (shown : ℕ) (a : Augment) (others : List Augment) → starts_elsewhere s shown a.target ≡ true
    → augments_written s shown (a ∷ others) ≡ part_text s shown (augment_part s a) ++ augments_written s shown others
augments_first s shown a others e =
    ap (λ b. flat_map (part_text s shown) (map (augment_part s) (cond b (a ∷ filter (spec.is_elsewhere s shown) others) (filter (spec.is_elsewhere s shown) others)))) e

pub augments_passed : (s : Schema) (shown : ℕ) (a : Augment) (others : List Augment) → starts_elsewhere s shown a.target ≡ false
    → augments_written s shown (a ∷ others) ≡ augments_written s shown others
augments_passed s shown a others e =
    ap (λ b. flat_map (part_text s shown) (map (augment_part s) (cond b (a ∷ filter (spec.is_elsewhere s shown) others) (filter (spec.is_elsewhere s shown) others)))) e

pub first_ascends : (a : Augment) (others : List Augment) → all_ascend (a ∷ others) ≡ true → (ascends_from 0 a.nodes ≡ true) × (all_ascend others ≡ true)
first_ascends a others e = and_parts (ascends_from 0 a.nodes) (all_ascend others) e

pub diagram_whole : (s : Schema) (shown : ℕ) (given : List Augment) → given ≡ augments_in s shown
    → diagram s shown ≡ part_text s shown (module_part s shown) ++ augments_written s shown given
diagram_whole s shown given is =
    ap (λ augments. part_text s shown (module_part s shown) ++ augments_written s shown augments) (sym is)

-- ---- a module

pub module_parts : (s : Schema) (shown : ℕ) (name : Text) (f : Forest SchemaNode) → name ≡ module_name s shown → f ≡ s.nodes
    → part_text s shown (module_part s shown) ≡ (codes "module: " ++ (name ++ (codes "\n" ++ []))) ++ row_written s shown (codes "  ") (shown_in (Some shown) f)
module_parts s shown name f name_is f_is =
    let lines = row_written s shown (codes "  ") (owned_by shown s.nodes) in
    ap (λ t. codes "module: " ++ t) (sym (append_assoc (module_name s shown) (codes "\n") lines))
    ∙ sym (ap₂ (λ n g. (codes "module: " ++ (n ++ (codes "\n" ++ []))) ++ row_written s shown (codes "  ") g) name_is
    (own_shown shown f ∙ ap (owned_by shown) f_is))
