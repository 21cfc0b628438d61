-- The first place whose data parent is a node is the first data node of that node's children, choices and cases passed through.
use Rattle.std.proofs.Common.{◌≡◌, ℕ, ◌+◌, Bool, true, false, cond, ◌&&◌, Option, Some, None, List, refl, sym, ap, ap₂, ◌∙◌, arith}
use Rattle.std.specs.Prelude.{◌==◌, unwrap_or, option_and_then, nat_lt}
use Rattle.std.specs.Option.{option_map_or}
use Rattle.std.proofs.lemmas.Bool.{ne_eqb, ltb-true, ltb-false}
use Rattle.std.proofs.lemmas.Bool.Decides.{Decides-eqb}
use Rattle.yspec.specs.Forest.{Forest, node, end, size, first_of, find_label, find_below, joined_below}
use Rattle.yspec.specs.schema.Schema.{SchemaNode, is_data, data_row, row_at, node_at, first_in_row}
use Rattle.yspec.specs.document.Fitting.{IsNumbered}
use Rattle.yspec.proofs.BasicLemmas.{first_of_none}
use Rattle.yspec.specs.linking.Planned.{same_number}
use Rattle.yschema_model.specs.declared.children.Slot.{Slot}
use Rattle.yschema_model.specs.declared.schema.SchemaModule.{SchemaModule}
use Rattle.yschema_model.specs.Layout.{data_at, data_places, forest_of, schema_view, IsLaidOut}
use Rattle.yschema_model.specs.Lookup.{first_below, module_passed}
use Rattle.yschema_model.proofs.ChildLemmas.{Avoids, avoids_top, avoids_outside, same_itself, turned, first_below-append, no_below, below_or_none, joined_none, numbered_laid}
use Rattle.yschema_model.proofs.PassedLemmas.{of_data, of_passed}

-- a data node that passes a test
abbrev Stored : (SchemaNode → Bool) → SchemaNode → Bool
Stored test n = is_data n.kind && test n

at_data_node : (p q : Option ℕ) (test : SchemaNode → Bool) (l : SchemaNode) (below after : Forest SchemaNode)
    → first_below p test (data_places q (node l below after))
    ≡ cond (same_number p q && test l) (Some l.number) (first_of (first_below p test (data_places (data_at q l) below)) (first_below p test (data_places q after)))
at_data_node p q test l below after =
    ap (cond (same_number p q && test l) (Some l.number)) (first_below-append p test (data_places (data_at q l) below) (data_places q after))

-- of a node, or of what a choice or case hands on
other_at : (p q : Option ℕ) (l : SchemaNode) → same_number p (Some l.number) ≡ false → same_number p q ≡ false → same_number p (data_at q l) ≡ false
other_at p q l itself above = by (is_data l.kind)
  where
    by : (b : Bool) → same_number p (cond b (Some l.number) q) ≡ false
    by true = itself
    by false = above

no_data_child : (p q : Option ℕ) (test : SchemaNode → Bool) (f : Forest SchemaNode) → Avoids p f → same_number p q ≡ false → first_below p test (data_places q f) ≡ None
no_data_child p q test end avoids other = refl
no_data_child p q test (node l below after) avoids other =
    at_data_node p q test l below after
    ∙ (ap (λ b. cond (b && test l) (Some l.number) (first_of (first_below p test (data_places (data_at q l) below)) (first_below p test (data_places q after)))) other
    ∙ ap₂ first_of (no_data_child p (data_at q l) test below avoids.1 (other_at p q l avoids.0 other)) (no_data_child p q test after avoids.2 other))

data_children_first : (p : Option ℕ) (test : SchemaNode → Bool) (f : Forest SchemaNode) → Avoids p f
    → first_below p (Stored test) (data_places p f) ≡ first_in_row test (data_row f)
data_children_first p test end avoids = refl
data_children_first p test (node l below after) avoids =
    at_data_node p p (Stored test) l below after
    ∙ (ap (λ b. cond (b && Stored test l) (Some l.number) (first_of (first_below p (Stored test) (data_places (data_at p l) below)) (first_below p (Stored test) (data_places p after)))) (same_itself p)
    ∙ by (is_data l.kind) refl (data_children_first p test below avoids.1) (data_children_first p test after avoids.2))
  where
    by : (b : Bool) → is_data l.kind ≡ b
        → first_below p (Stored test) (data_places p below) ≡ first_in_row test (data_row below)
        → first_below p (Stored test) (data_places p after) ≡ first_in_row test (data_row after)
        → cond (b && test l) (Some l.number) (first_of (first_below p (Stored test) (data_places (cond b (Some l.number) p) below)) (first_below p (Stored test) (data_places p after)))
        ≡ first_in_row test (data_row (node l below after))
    by true is inner rest =
        ap (cond (test l) (Some l.number)) (ap₂ first_of (no_data_child p (Some l.number) (Stored test) below avoids.1 avoids.0) rest)
        ∙ sym (of_data test l below after is)
    by false is inner rest = ap₂ first_of inner rest ∙ sym (of_passed test l below after is)

-- a node of that number, if there is one, is a data node
abbrev IsDataAt : ℕ → Forest SchemaNode → Type 0
IsDataAt j f = option_map_or (λ n. is_data n.kind) (find_label (λ n. n.number == j) f) true ≡ true

no_label : (j : ℕ) (f : Forest SchemaNode) → Avoids (Some j) f → find_label (λ n. n.number == j) f ≡ None
no_label j end avoids = refl
no_label j (node l below after) avoids =
    ap₂ (λ b o. cond b (Some l) o) (turned l.number j ∙ avoids.0) (ap₂ first_of (no_label j below avoids.1) (no_label j after avoids.2))

data_inside : (a b : Option SchemaNode) → option_map_or (λ n. is_data n.kind) (first_of a b) true ≡ true → option_map_or (λ n. is_data n.kind) a true ≡ true
data_inside (Some n) b h = h
data_inside None b h = refl

data_children_found : (k j : ℕ) (q : Option ℕ) (test : SchemaNode → Bool) (f : Forest SchemaNode) → IsNumbered k f → same_number (Some j) q ≡ false → IsDataAt j f
    → first_below (Some j) (Stored test) (data_places q f) ≡ first_in_row test (data_row (below_or_none j f))
data_children_found k j q test end numbered other is = refl
data_children_found k j q test (node l below after) numbered other is =
    at_data_node (Some j) q (Stored test) l below after
    ∙ (ap (λ b. cond (b && Stored test l) (Some l.number) (first_of (first_below (Some j) (Stored test) (data_places (data_at q l) below)) (first_below (Some j) (Stored test) (data_places q after)))) other
    ∙ by (l.number == j) refl (nat_lt j (k + 1 + size below)) refl is
    (data_children_found (k + 1) j (data_at q l) test below numbered.1)
    (data_children_found (k + 1 + size below) j q test after numbered.2 other))
  where
    by : (b : Bool) → (l.number == j) ≡ b → (c : Bool) → nat_lt j (k + 1 + size below) ≡ c
        → option_map_or (λ n. is_data n.kind) (cond b (Some l) (first_of (find_label (λ n. n.number == j) below) (find_label (λ n. n.number == j) after))) true ≡ true
        → (same_number (Some j) (data_at q l) ≡ false → IsDataAt j below → first_below (Some j) (Stored test) (data_places (data_at q l) below) ≡ first_in_row test (data_row (below_or_none j below)))
        → (IsDataAt j after → first_below (Some j) (Stored test) (data_places q after) ≡ first_in_row test (data_row (below_or_none j after)))
        → first_of (first_below (Some j) (Stored test) (data_places (data_at q l) below)) (first_below (Some j) (Stored test) (data_places q after))
        ≡ first_in_row test (data_row (unwrap_or (cond b (Some below) (joined_below (find_below (λ n. n.number == j) below) (find_below (λ n. n.number == j) after))) end))
    by true e c d stored inner rest =
        let here : j ≡ k = sym ((Decides-eqb l.number j).0 e) ∙ numbered.0 in
        let none = avoids_outside (k + 1 + size below) j after numbered.2 (λ i from to. ne_eqb j i (omega (arith, here))) in
        let none_below = avoids_outside (k + 1) j below numbered.1 (λ i from to. ne_eqb j i (omega (arith, here))) in
        let itself : data_at q l ≡ Some j = ap (λ b. cond b (Some l.number) q) stored ∙ ap Some ((Decides-eqb l.number j).0 e) in
        ap₂ first_of (ap (λ p. first_below (Some j) (Stored test) (data_places p below)) itself ∙ data_children_first (Some j) test below none_below)
        (no_data_child (Some j) q (Stored test) after none other)
        ∙ first_of_none (first_in_row test (data_row below))
    by false e true d stored inner rest =
        let none = avoids_outside (k + 1 + size below) j after numbered.2 (λ i from to. ne_eqb j i (omega (arith, ltb-true j (k + 1 + size below) d))) in
        let inside = data_inside (find_label (λ n. n.number == j) below) (find_label (λ n. n.number == j) after) stored in
        ap₂ first_of (inner (other_at (Some j) q l (turned j l.number ∙ e) other) inside) (no_data_child (Some j) q (Stored test) after none other)
        ∙ (first_of_none (first_in_row test (data_row (below_or_none j below)))
        ∙ ap (λ o. first_in_row test (data_row (unwrap_or o end))) (sym (ap (joined_below (find_below (λ n. n.number == j) below)) (no_below j after none) ∙ joined_none (find_below (λ n. n.number == j) below))))
    by false e false d stored inner rest =
        let none = avoids_outside (k + 1) j below numbered.1 (λ i from to. ne_eqb j i (omega (arith, ltb-false j (k + 1 + size below) d))) in
        let later = ap (λ o. option_map_or (λ n. is_data n.kind) (first_of o (find_label (λ n. n.number == j) after)) true) (sym (no_label j below none)) ∙ stored in
        ap₂ first_of (no_data_child (Some j) (data_at q l) (Stored test) below none (other_at (Some j) q l (turned j l.number ∙ e) other)) (rest later)
        ∙ ap (λ o. first_in_row test (data_row (unwrap_or (joined_below o (find_below (λ n. n.number == j) after)) end))) (sym (no_below j below none))

-- nothing is passed through at a data node
not_passed : (o : Option SchemaNode) → option_and_then (λ n. cond (is_data n.kind) None (Some n.module_number)) o ≡ None → option_map_or (λ n. is_data n.kind) o true ≡ true
not_passed None e = refl
not_passed (Some n) e = by (is_data n.kind) e
  where
    by : (b : Bool) → cond b None (Some n.module_number) ≡ None → b ≡ true
    by true e = refl
    by false e = absurd cc

pub first_data_child : (modules : List SchemaModule) (slots : List Slot) (p : Option ℕ) (test : SchemaNode → Bool)
    → IsLaidOut slots → module_passed (schema_view modules slots) p ≡ None
    → first_below p (Stored test) (data_places None (forest_of 0 slots)) ≡ first_in_row test (data_row (row_at (schema_view modules slots) p))
first_data_child modules slots None test laid_out passed = data_children_first None test (forest_of 0 slots) (avoids_top (forest_of 0 slots))
first_data_child modules slots (Some j) test laid_out passed =
    data_children_found 0 j None test (forest_of 0 slots) (numbered_laid (forest_of 0 slots) None 0 slots laid_out) refl
    (not_passed (node_at (schema_view modules slots) j) passed)
