-- The first slot below a node is the first of the node's children: each number stands once.
use Rattle.std.proofs.Common.{◌≡◌, ℕ, ◌+◌, ◌<◌, ◌≤◌, Bool, true, false, cond, ◌&&◌, List, [], ◌∷◌, ◌++◌, length, take, drop, Option, Some, None, refl, sym, ap, ap₂, ◌∙◌, arith}
use Rattle.std.specs.Prelude.{◌==◌, unwrap_or, find, nat_lt}
use Rattle.std.proofs.lemmas.Bool.{eq-eqb, ne_eqb, ltb-true, ltb-false}
use Rattle.std.proofs.lemmas.Bool.Decides.{Decides-eqb, nat_tests}
use Rattle.yspec.specs.Forest.{Forest, node, end, size, row, first_of, find_below, joined_below}
use Rattle.yspec.specs.schema.Schema.{SchemaNode, row_at, first_in_row}
use Rattle.yspec.specs.document.Fitting.{IsNumbered}
use Rattle.yschema_model.specs.declared.children.Slot.{Slot}
use Rattle.yschema_model.specs.declared.schema.SchemaModule.{SchemaModule}
use Rattle.yschema_model.specs.Layout.{Place, places, laid, forest_of, schema_view, IsLaidOut}
use Rattle.yschema_model.specs.Lookup.{first_below}
use Rattle.yschema_model.proofs.LayoutLemmas.{laid_parts, length-laid, length-places}
use Rattle.yspec.proofs.SchemaProofs.NodeLemmas.{map_cond}
use Rattle.yspec.specs.linking.Planned.{same_number}
use Rattle.yspec.proofs.BasicLemmas.{first_of_none}

pub numbered_laid : (f : Forest SchemaNode) (p : Option ℕ) (k : ℕ) (slots : List Slot) → laid k slots ≡ places p f → IsNumbered k f
numbered_laid end p k slots e = tt
numbered_laid (node l below after) p k [] e = absurd cc
numbered_laid (node l below after) p k (r ∷ slots) e =
    let parts = laid_parts l below after p k r slots e in
    let inner = take r.below slots in
    let sized : length inner ≡ size below = sym (length-laid (k + 1) inner) ∙ (ap length parts.0 ∙ length-places (Some l.number) below) in (
      sym (ap (λ (n : SchemaNode). n.number) parts.3),
      numbered_laid below (Some l.number) (k + 1) inner parts.0,
      numbered_laid after p (k + 1 + size below) (drop r.below slots) (ap (λ n. laid (k + 1 + n) (drop r.below slots)) (sym sized) ∙ parts.1),
    )

-- no node has that number
abbrev pub Avoids : Option ℕ → Forest SchemaNode → Type 0
Avoids p end = Unit {0}
Avoids p (node l below after) = (same_number p (Some l.number) ≡ false) × Avoids p below × Avoids p after

pub avoids_top : (f : Forest SchemaNode) → Avoids None f
avoids_top end = tt
avoids_top (node l below after) = (refl, avoids_top below, avoids_top after)

pub avoids_outside : (k j : ℕ) (f : Forest SchemaNode) → IsNumbered k f → ((i : ℕ) → k ≤ i → i < k + size f → (j == i) ≡ false) → Avoids (Some j) f
avoids_outside k j end numbered outside = tt
avoids_outside k j (node l below after) numbered outside = (
  ap (λ n. j == n) numbered.0 ∙ outside k (omega arith) (omega arith),
  avoids_outside (k + 1) j below numbered.1 (λ i from to. outside i (omega arith) (omega arith)),
  avoids_outside (k + 1 + size below) j after numbered.2 (λ i from to. outside i (omega arith) (omega arith)),
)

pub same_itself : (p : Option ℕ) → same_number p p ≡ true
same_itself None = refl
same_itself (Some j) = eq-eqb j j refl

pub turned : (a b : ℕ) → (a == b) ≡ (b == a)
turned a b = grind (arith, nat_tests)

-- ---- slots below a node

pub first_below-append : (p : Option ℕ) (test : SchemaNode → Bool) (ps qs : List Place) → first_below p test (ps ++ qs) ≡ first_of (first_below p test ps) (first_below p test qs)
first_below-append p test [] qs = refl
first_below-append p test (pl ∷ ps) qs = by (same_number p pl.parent && test pl.label) (first_below-append p test ps qs)
  where
    by : (b : Bool) → first_below p test (ps ++ qs) ≡ first_of (first_below p test ps) (first_below p test qs)
        → cond b (Some pl.label.number) (first_below p test (ps ++ qs)) ≡ first_of (cond b (Some pl.label.number) (first_below p test ps)) (first_below p test qs)
    by true h = refl
    by false h = h

-- the first of a row and what stands below it
at_node : (p q : Option ℕ) (test : SchemaNode → Bool) (l : SchemaNode) (below after : Forest SchemaNode)
    → first_below p test (places q (node l below after))
    ≡ cond (same_number p q && test l) (Some l.number) (first_of (first_below p test (places (Some l.number) below)) (first_below p test (places q after)))
at_node p q test l below after =
    ap (cond (same_number p q && test l) (Some l.number)) (first_below-append p test (places (Some l.number) below) (places q after))

no_child : (p q : Option ℕ) (test : SchemaNode → Bool) (f : Forest SchemaNode) → Avoids p f → same_number p q ≡ false → first_below p test (places q f) ≡ None
no_child p q test end avoids other = refl
no_child p q test (node l below after) avoids other =
    at_node p q test l below after
    ∙ (ap (λ b. cond (b && test l) (Some l.number) (first_of (first_below p test (places (Some l.number) below)) (first_below p test (places q after)))) other
    ∙ ap₂ first_of (no_child p (Some l.number) test below avoids.1 avoids.0) (no_child p q test after avoids.2 other))

children_first : (p : Option ℕ) (test : SchemaNode → Bool) (f : Forest SchemaNode) → Avoids p f → first_below p test (places p f) ≡ first_in_row test f
children_first p test end avoids = refl
children_first p test (node l below after) avoids =
    at_node p p test l below after
    ∙ (ap₂ (λ b o. cond (b && test l) (Some l.number) o) (same_itself p)
    (ap₂ first_of (no_child p (Some l.number) test below avoids.1 avoids.0) (children_first p test after avoids.2))
    ∙ sym (map_cond (λ n. n.number) (test l) (Some l) (find test (row after))))

pub no_below : (j : ℕ) (f : Forest SchemaNode) → Avoids (Some j) f → find_below (λ n. n.number == j) f ≡ None
no_below j end avoids = refl
no_below j (node l below after) avoids =
    ap₂ (λ b o. cond b (Some below) o) (turned l.number j ∙ avoids.0) (ap₂ joined_below (no_below j below avoids.1) (no_below j after avoids.2))

abbrev pub below_or_none : ℕ → Forest SchemaNode → Forest SchemaNode
below_or_none j f = unwrap_or (find_below (λ n. n.number == j) f) end

pub joined_none : {X : Type 0} (o : Option (Forest X)) → joined_below o None ≡ o
joined_none (Some x) = refl
joined_none None = refl

children_found : (k j : ℕ) (q : Option ℕ) (test : SchemaNode → Bool) (f : Forest SchemaNode) → IsNumbered k f → same_number (Some j) q ≡ false
    → first_below (Some j) test (places q f) ≡ first_in_row test (below_or_none j f)
children_found k j q test end numbered other = refl
children_found k j q test (node l below after) numbered other =
    at_node (Some j) q test l below after
    ∙ (ap (λ b. cond (b && test l) (Some l.number) (first_of (first_below (Some j) test (places (Some l.number) below)) (first_below (Some j) test (places q after)))) other
    ∙ by (l.number == j) refl (nat_lt j (k + 1 + size below)) refl
    (children_found (k + 1) j (Some l.number) test below numbered.1)
    (children_found (k + 1 + size below) j q test after numbered.2 other))
  where
    by : (b : Bool) → (l.number == j) ≡ b → (c : Bool) → nat_lt j (k + 1 + size below) ≡ c
        → (same_number (Some j) (Some l.number) ≡ false → first_below (Some j) test (places (Some l.number) below) ≡ first_in_row test (below_or_none j below))
        → first_below (Some j) test (places q after) ≡ first_in_row test (below_or_none j after)
        → first_of (first_below (Some j) test (places (Some l.number) below)) (first_below (Some j) test (places q after))
        ≡ first_in_row test (unwrap_or (cond b (Some below) (joined_below (find_below (λ n. n.number == j) below) (find_below (λ n. n.number == j) after))) end)
    by true e c d inner rest =
        let here : j ≡ k = sym ((Decides-eqb l.number j).0 e) ∙ numbered.0 in
        let none = avoids_outside (k + 1 + size below) j after numbered.2 (λ i from to. ne_eqb j i (omega (arith, here))) in
        let none_below = avoids_outside (k + 1) j below numbered.1 (λ i from to. ne_eqb j i (omega (arith, here))) in
        ap₂ first_of (ap (λ n. first_below (Some j) test (places (Some n) below)) ((Decides-eqb l.number j).0 e) ∙ children_first (Some j) test below none_below)
        (no_child (Some j) q test after none other)
        ∙ first_of_none (first_in_row test below)
    by false e true d inner rest =
        let none = avoids_outside (k + 1 + size below) j after numbered.2 (λ i from to. ne_eqb j i (omega (arith, ltb-true j (k + 1 + size below) d))) in
        ap₂ first_of (inner (turned j l.number ∙ e)) (no_child (Some j) q test after none other)
        ∙ (first_of_none (first_in_row test (below_or_none j below))
        ∙ ap (λ o. first_in_row test (unwrap_or o end)) (sym (ap (joined_below (find_below (λ n. n.number == j) below)) (no_below j after none) ∙ joined_none (find_below (λ n. n.number == j) below))))
    by false e false d inner rest =
        let none = avoids_outside (k + 1) j below numbered.1 (λ i from to. ne_eqb j i (omega (arith, ltb-false j (k + 1 + size below) d))) in
        ap₂ first_of (no_child (Some j) (Some l.number) test below none (turned j l.number ∙ e)) rest
        ∙ ap (λ o. first_in_row test (unwrap_or (joined_below o (find_below (λ n. n.number == j) after)) end)) (sym (no_below j below none))

pub first_child : (modules : List SchemaModule) (slots : List Slot) (p : Option ℕ) (test : SchemaNode → Bool)
    → IsLaidOut slots → first_below p test (laid 0 slots) ≡ first_in_row test (row_at (schema_view modules slots) p)
first_child modules slots None test laid_out = ap (first_below None test) laid_out ∙ children_first None test (forest_of 0 slots) (avoids_top (forest_of 0 slots))
first_child modules slots (Some j) test laid_out =
    ap (first_below (Some j) test) laid_out ∙ children_found 0 j None test (forest_of 0 slots) (numbered_laid (forest_of 0 slots) None 0 slots laid_out) refl
