-- The first child of a name among nodes as they lie is the first of the row below its parent; an index of them.
use Rattle.std.proofs.Common.{◌≡◌, ◌⊎◌, inl, inr, ℕ, suc, ◌+◌, ◌<◌, ◌≤◌, ◌==◌, ◌&&◌, Bool, true, false, cond, List, [], ◌∷◌, ◌++◌, drop, get_or, length, Option, Some, None, refl, sym, ap, ap₂, ◌∙◌, arith, subst}
use Rattle.std.specs.Prelude.{option_map, option_and_then}
use Rattle.std.proofs.lemmas.Bool.{eq-eqb, ne_eqb}
use Rattle.std.proofs.lemmas.List.{at_drop_all, drop_more}
use Rattle.std.proofs.lemmas.Option.{none-some}
use Rattle.yspec.specs.Forest.{Forest, end, node, size, first_of}
use Rattle.yspec.specs.text.Text.{Text, is_text}
use Rattle.yspec.specs.linking.Source.{argument_in}
use Rattle.yspec.specs.linking.Parts.{Part}
use Rattle.yspec.specs.linking.Prefixes.{NodeName}
use Rattle.yspec.specs.linking.Expansion.{is_step}
use Rattle.yspec.specs.linking.Planned.{same_number}
use Rattle.ybase_preorder.specs.Layout.{Place, laid, places, seen}
use Rattle.ybase_preorder.specs.declared.slot.Slot.{Slot}
use Rattle.ybase_preorder.proofs.LayoutLemmas.{length-places}
use Rattle.ybase_index.specs.Index.{found}
use Rattle.ybase_index.specs.declared.index.NodeIndex.{NodeIndex}
use Rattle.ybase_index.specs.declared.keys.Among.TheVariants.{Children}
use Rattle.yschema_expand.specs.NodeView.{numbered_part, part_view}
use Rattle.yschema_expand.specs.declared.nodes.ExpandedNode.{ExpandedNode}
use Rattle.yschema_expand.specs.Targets.{Found, found_in, found_at}
use Rattle.yschema_expand.specs.Indexing.{first_child, look_by, Lookup, led, led_on}

of_assoc : (a b c : Option ℕ) → first_of (first_of a b) c ≡ first_of a (first_of b c)
of_assoc None b c = refl
of_assoc (Some n) b c = refl

of_none : (o : Option ℕ) → first_of o None ≡ o
of_none None = refl
of_none (Some n) = refl

first_append : (above : Option ℕ) (name : NodeName) (k : ℕ) (ps qs : List (Place Part))
    → first_child above name k (ps ++ qs) ≡ first_of (first_child above name k ps) (first_child above name (k + length ps) qs)
first_append above name k [] qs = ap (λ n. first_child above name n qs) (omega arith)
first_append above name k (p ∷ ps) qs =
    let here : k + 1 + length ps ≡ k + suc (length ps) = omega arith in
    let head = cond (same_number above p.parent && is_step name p.label) (Some k) None in
    ap (first_of head) (first_append above name (k + 1) ps qs ∙ ap (λ n. first_of (first_child above name (k + 1) ps) (first_child above name n qs)) here)
    ∙ sym (of_assoc head (first_child above name (k + 1) ps) (first_child above name (k + suc (length ps)) qs))

-- a node, what stands below it, and what comes after
first_node : (above : Option ℕ) (name : NodeName) (k : ℕ) (q : Option ℕ) (p : Part) (below after : Forest Part)
    → first_child above name k (places q k (node p below after))
    ≡ first_of (cond (same_number above q && is_step name p) (Some k) None)
    (first_of (first_child above name (k + 1) (places (Some k) (k + 1) below))
    (first_child above name (k + suc (size below)) (places q (k + suc (size below)) after)))
first_node above name k q p below after =
    let count = length-places (Some k) (k + 1) below in
    let past : k + 1 + length (places (Some k) (k + 1) below) ≡ k + suc (size below) = omega (arith, count) in
    ap (first_of (cond (same_number above q && is_step name p) (Some k) None))
    (first_append above name (k + 1) (places (Some k) (k + 1) below) (places q (k + suc (size below)) after)
    ∙ ap (λ n. first_of (first_child above name (k + 1) (places (Some k) (k + 1) below)) (first_child above name n (places q (k + suc (size below)) after))) past)

no_head : (b d : Bool) (k : ℕ) (o : Option ℕ) → b ≡ false → first_of (cond (b && d) (Some k) None) o ≡ o
no_head b d k o e = ap (λ x. first_of (cond (x && d) (Some k) None) o) e

-- none, where no node below which these stand has that number
no_child : (j : ℕ) (name : NodeName) (k : ℕ) (q : Option ℕ) (f : Forest Part) → same_number (Some j) q ≡ false → ((j < k) ⊎ (k + size f ≤ j))
    → first_child (Some j) name k (places q k f) ≡ None
no_child j name k q end other out = refl
no_child j name k q (node p below after) other out =
    let past = k + suc (size below) in
    first_node (Some j) name k q p below after
    ∙ (no_head (same_number (Some j) q) (is_step name p) k _ other
    ∙ ap₂ first_of (no_child j name (k + 1) (Some k) below (ne_eqb j k (apart out)) (under out)) (no_child j name past q after other (behind out)))
  where
    apart : ((j < k) ⊎ (k + suc (size below + size after) ≤ j)) → j ≡ k → ⊥
    apart (inl less) e = absurd (omega (arith, less, e))
    apart (inr more) e = absurd (omega (arith, more, e))

    under : ((j < k) ⊎ (k + suc (size below + size after) ≤ j)) → (j < k + 1) ⊎ (k + 1 + size below ≤ j)
    under (inl less) = inl (omega (arith, less))
    under (inr more) = inr (omega (arith, more))

    behind : ((j < k) ⊎ (k + suc (size below + size after) ≤ j)) → (j < k + suc (size below)) ⊎ (k + suc (size below) + size after ≤ j)
    behind (inl less) = inl (omega (arith, less))
    behind (inr more) = inr (omega (arith, more))

-- ---- a row below a node that lies before it, or at the top

abbrev pub Apart : Option ℕ → ℕ → Type 0
Apart q k = (j : ℕ) → k ≤ j → same_number q (Some j) ≡ false

deeper : (q : Option ℕ) (name : NodeName) (j k : ℕ) (f : Forest Part) → Apart q j → j ≤ k → first_child q name k (places (Some j) k f) ≡ None
deeper q name j k end apart more = refl
deeper q name j k (node p below after) apart more =
    first_node q name k (Some j) p below after
    ∙ (no_head (same_number q (Some j)) (is_step name p) k _ (apart j (omega arith))
    ∙ ap₂ first_of (deeper q name k (k + 1) below (λ i less. apart i (omega (arith, less, more))) (omega arith))
    (deeper q name j (k + suc (size below)) after apart (omega (arith, more))))

same : (q : Option ℕ) → same_number q q ≡ true
same None = refl
same (Some n) = eq-eqb n n refl

-- the first of a row, where all of it are children
first_row : (b : Bool) (k : ℕ) (p : Part) (below : Forest Part) (rest : Option ℕ) (more : Option Found) → rest ≡ option_map (λ x. x.number) more
    → first_of (cond b (Some k) None) rest ≡ option_map (λ (x : Found). x.number) (cond b (Some (record { number = k; part = p; below = below })) more)
first_row true k p below rest more e = refl
first_row false k p below rest more e = e

pub row_child : (q : Option ℕ) (name : NodeName) (k : ℕ) (f : Forest Part) → Apart q k
    → first_child q name k (places q k f) ≡ option_map (λ x. x.number) (found_in (is_step name) k f)
row_child q name k end apart = refl
row_child q name k (node p below after) apart =
    let past = k + suc (size below) in
    first_node q name k q p below after
    ∙ (ap₂ (λ b o. first_of (cond (b && is_step name p) (Some k) None) (first_of o (first_child q name past (places q past after))))
    (same q) (deeper q name k (k + 1) below apart (omega arith))
    ∙ first_row (is_step name p) k p below _ _ (row_child q name past after (λ j more. apart j (omega (arith, more)))))

-- ---- below each node of a row

-- the children of each node are found
pub Agrees : Lookup → ℕ → Forest Part → Type 0
Agrees look k end = Unit {0}
Agrees look k (node p below after) = ((name : NodeName) → look (Some k) name ≡ option_map (λ x. x.number) (found_in (is_step name) (k + 1) below))
    × Agrees look (k + 1) below × Agrees look (k + suc (size below)) after

pub agrees_none : (look : Lookup) (k : ℕ) → Agrees look k end
unfolding Agrees
agrees_none look k = tt

abbrev pub AreChildren : Lookup → Option ℕ → ℕ → Forest Part → Type 0
AreChildren look q k f = (j : ℕ) (name : NodeName) → k ≤ j → j < k + size f → look (Some j) name ≡ first_child (Some j) name k (places q k f)

pub agrees : (look : Lookup) (q : Option ℕ) (k : ℕ) (f : Forest Part) → ((j : ℕ) → k ≤ j → same_number (Some j) q ≡ false)
    → AreChildren look q k f → Agrees look k f
unfolding Agrees
agrees look q k end other children = tt
agrees look q k (node p below after) other children =
    let past = k + suc (size below) in
    let of : (j : ℕ) (name : NodeName) → k ≤ j → j < k + suc (size below + size after) → look (Some j) name
    ≡ first_of (first_child (Some j) name (k + 1) (places (Some k) (k + 1) below)) (first_child (Some j) name past (places q past after)) =
    λ j name more less. children j name more less ∙ (first_node (Some j) name k q p below after ∙ no_head (same_number (Some j) q) _ k _ (other j more)) in (
      (λ name. of k name (omega arith) (omega arith)
          ∙ (ap₂ first_of (row_child (Some k) name (k + 1) below (λ j more. ne_eqb k j (λ e. absurd (omega (arith, more, e))))) (no_child k name past q after (other k (omega arith)) (inl (omega arith)))
          ∙ of_none _)),
      agrees look (Some k) (k + 1) below (λ j more. ne_eqb j k (λ e. absurd (omega (arith, more, e))))
          (λ j name more less. of j name (omega (arith, more)) (omega (arith, less))
          ∙ (ap (first_of (first_child (Some j) name (k + 1) (places (Some k) (k + 1) below)))
          (no_child j name past q after (other j (omega (arith, more))) (inl (omega (arith, less))))
          ∙ of_none _)),
      agrees look q past after (λ j more. other j (omega (arith, more)))
          (λ j name more less. of j name (omega (arith, more)) (omega (arith, less))
          ∙ ap (λ o. first_of o (first_child (Some j) name past (places q past after)))
          (no_child j name (k + 1) (Some k) below (ne_eqb j k (λ e. absurd (omega (arith, more, e)))) (inr (omega (arith, more))))),
    )

-- ---- along a path

module _ (look : Lookup) where
  abbrev pub Beside : Found → Type 0
  Beside x = ((name : NodeName) → look (Some x.number) name ≡ option_map (λ y. y.number) (found_in (is_step name) (x.number + 1) x.below))
      × Agrees look (x.number + 1) x.below

  agrees_found : (test : Part → Bool) (k : ℕ) (f : Forest Part) (x : Found) → Agrees look k f → found_in test k f ≡ Some x → Beside x
  unfolding Agrees
  agrees_found test k end x each e = absurd (none-some x e)
  agrees_found test k (node p below after) x each e =
      by (test p) e (λ later. agrees_found test (k + suc (size below)) after x each.2 later)
    where
      by : (b : Bool) → cond b (Some (record { number = k; part = p; below = below })) (found_in test (k + suc (size below)) after) ≡ Some x
          → (found_in test (k + suc (size below)) after ≡ Some x → Beside x) → Beside x
      by true is rest = let same : record { number = k; part = p; below = below } ≡ x = cc in subst Beside same (each.0, each.1)
      by false is rest = rest is

  pub led_found : (steps : List NodeName) (q : Option ℕ) (k : ℕ) (f : Forest Part) → Agrees look k f
      → ((name : NodeName) → look q name ≡ option_map (λ x. x.number) (found_in (is_step name) k f))
      → led look q steps ≡ option_map (λ x. x.number) (found_at steps k f)
  led_found [] q k f each top = refl
  led_found (step ∷ []) q k f each top = ap (option_and_then Some) (top step) ∙ by (found_in (is_step step) k f)
    where
      by : (o : Option Found) → option_and_then Some (option_map (λ x. x.number) o) ≡ option_map (λ x. x.number) o
      by None = refl
      by (Some x) = refl
  led_found (step ∷ next ∷ steps) q k f each top =
      ap (option_and_then (λ n. led_on look n (next ∷ steps))) (top step)
      ∙ by (found_in (is_step step) k f) (λ x is. agrees_found (is_step step) k f x each is) (λ p n g a t. led_found (next ∷ steps) p n g a t)
    where
      by : (o : Option Found) → ((x : Found) → o ≡ Some x → Beside x)
          → ((p : Option ℕ) (n : ℕ) (g : Forest Part) → Agrees look n g → ((name : NodeName) → look p name ≡ option_map (λ y. y.number) (found_in (is_step name) n g))
          → led look p (next ∷ steps) ≡ option_map (λ y. y.number) (found_at (next ∷ steps) n g))
          → option_and_then (λ n. led_on look n (next ∷ steps)) (option_map (λ x. x.number) o)
          ≡ option_map (λ y. y.number) (option_and_then (λ (x : Found). found_at (next ∷ steps) (x.number + 1) x.below) o)
      by None found rest = refl
      by (Some x) found rest = let one = found x refl in rest (Some x.number) (x.number + 1) x.below one.1 one.0

-- where a step leads nowhere, so do all from there
pub led_nowhere : (look : Lookup) (number : ℕ) (step : NodeName) (steps : List NodeName) → None ≡ look (Some number) step → None ≡ led_on look number (step ∷ steps)
led_nowhere look number step steps none = ap (option_and_then (λ n. led_on look n steps)) none

pub led_next : (look : Lookup) (number n : ℕ) (step : NodeName) (steps : List NodeName) → Some n ≡ look (Some number) step
    → led_on look n steps ≡ led_on look number (step ∷ steps)
led_next look number n step steps one = ap (option_and_then (λ m. led_on look m steps)) one

-- ---- an index with one node more

and_false : (b : Bool) → (b && false) ≡ false
and_false true = refl
and_false false = refl

none_out : (b c : Bool) (k : ℕ) → c ≡ false → cond {A = Option ℕ} (b && c) (Some k) None ≡ None
none_out b c k e = ap (λ x. cond {A = Option ℕ} (b && x) (Some k) None) e ∙ ap (λ x. cond {A = Option ℕ} x (Some k) None) (and_false b)

pub look_more : (old new : NodeIndex) (number owner : ℕ) (parent : Option ℕ) (p : Part) (own : Text) → owner ≡ p.owner → own ≡ argument_in p.source
    → ((above : Option ℕ) (m : ℕ) (t : Text) → found new Children above m t ≡ first_of (found old Children above m t)
    (cond (same_number above parent && (m == owner && is_text t own)) (Some number) None))
    → (above : Option ℕ) (name : NodeName) → look_by new above name ≡ first_of (look_by old above name)
    (cond (same_number above parent && is_step name p) (Some number) None)
look_more old new number owner parent p own owner_is own_is is above name = by name.module_number refl
  where
    by : (o : Option ℕ) → name.module_number ≡ o
        → option_and_then (λ m. found new Children above m name.name) o ≡ first_of (option_and_then (λ m. found old Children above m name.name) o)
        (cond (same_number above parent && is_step name p) (Some number) None)
    by None e = sym (none_out (same_number above parent) (is_step name p) number
        (ap (λ o. same_number o (Some p.owner) && is_text name.name (argument_in p.source)) e))
    by (Some m) e = is above m name.name ∙ ap (first_of (found old Children above m name.name))
        (ap₂ (λ w t. cond (same_number above parent && (m == w && is_text name.name t)) (Some number) None) owner_is own_is
        ∙ ap (λ d. cond {A = Option ℕ} (same_number above parent && d) (Some number) None)
        (ap (λ o. same_number o (Some p.owner) && is_text name.name (argument_in p.source)) (sym e)))

-- one node further
pub further : (above : Option ℕ) (name : NodeName) (slots : List (Slot ExpandedNode)) (i : ℕ) (r : Slot ExpandedNode) (before after total : Option ℕ)
    → i < length slots → r ≡ get_or slots i r
    → after ≡ first_of before (cond (same_number above r.parent && is_step name (part_view r.label)) (Some i) None)
    → first_of before (first_child above name i (seen numbered_part i (laid (drop i slots)))) ≡ total
    → first_of after (first_child above name (i + 1) (seen numbered_part (i + 1) (laid (drop (i + 1) slots)))) ≡ total
further above name slots i r before after total within is added so_far =
    let rest = first_child above name (i + 1) (seen numbered_part (i + 1) (laid (drop (i + 1) slots))) in
    let here = cond (same_number above r.parent && is_step name (part_view r.label)) (Some i) None in
    let at : drop i slots ≡ r ∷ drop (i + 1) slots = drop_more slots i r within ∙ ap (λ (x : Slot ExpandedNode). x ∷ drop (i + 1) slots) (sym is) in
    ap (λ o. first_of o rest) added ∙ (of_assoc before here rest
    ∙ (ap (λ xs. first_of before (first_child above name i (seen numbered_part i (laid xs)))) (sym at) ∙ so_far))

pub all_found : (above : Option ℕ) (name : NodeName) (slots : List (Slot ExpandedNode)) (k : ℕ) (so_far total : Option ℕ) → length slots ≤ k
    → first_of so_far (first_child above name k (seen numbered_part k (laid (drop k slots)))) ≡ total → so_far ≡ total
all_found above name slots k so_far total ended is = sym (of_none so_far)
    ∙ (sym (at_drop_all (λ xs. first_of so_far (first_child above name k (seen numbered_part k (laid xs)))) slots k ended) ∙ is)

pub row_read : (items slots : List (Slot ExpandedNode)) (i : ℕ) (r : Slot ExpandedNode) → items ≡ slots → i < length items → r ≡ get_or items i r
    → (i < length slots) × (r ≡ get_or slots i r)
row_read items slots i r same within is =
    let count = ap length same in (omega (arith, within, count), is ∙ ap (λ xs. get_or xs i r) same)
