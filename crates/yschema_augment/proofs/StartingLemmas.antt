-- The first child among all nodes as they lie is the first of the row below its parent.
use Rattle.std.proofs.Common.{◌≡◌, ◌⊎◌, inl, inr, ℕ, suc, ◌+◌, ◌<◌, ◌≤◌, ◌==◌, ◌&&◌, ◌||◌, Bool, true, false, cond, nat_lt, List, [], ◌∷◌, ◌++◌, drop, get_or, length, Option, Some, None, refl, sym, ap, ap₂, ◌∙◌, arith}
use Rattle.std.specs.Prelude.{is_some, option_map, option_and_then}
use Rattle.std.proofs.lemmas.Bool.{eq-eqb, ne_eqb, lt-ltb, le-ltb}
use Rattle.std.proofs.lemmas.List.{drop_more}
use Rattle.std.proofs.lemmas.Option.{slice_get-get_or}
use Rattle.yspec.specs.Forest.{Forest, end, node, size, first_of}
use Rattle.yspec.specs.text.Text.{Text, is_text}
use Rattle.yspec.specs.linking.Source.{argument_in}
use Rattle.yspec.specs.linking.Parts.{Part}
use Rattle.yspec.specs.linking.Prefixes.{NodeName}
use Rattle.yspec.specs.linking.Expansion.{is_step}
use Rattle.yspec.specs.linking.Planned.{same_number}
use Rattle.ybase_preorder.specs.Layout.{Place, laid, places, seen}
use Rattle.ybase_preorder.specs.declared.slot.Slot.{Slot}
use Rattle.ybase_preorder.proofs.LayoutLemmas.{length-places}
use Rattle.ybase_index.specs.Index.{found}
use Rattle.ybase_index.specs.Names.{text_in}
use Rattle.ybase_index.specs.declared.index.NodeIndex.{NodeIndex}
use Rattle.ybase_index.specs.declared.keys.Among.TheVariants.{Children}
use Rattle.yschema_expand.specs.NodeView.{numbered_part, part_view}
use Rattle.yschema_augment.specs.Asking.{AreNames, row_name}
use Rattle.yschema_augment.specs.SearchView.{look_by}
use Rattle.yschema_expand.specs.declared.nodes.ExpandedNode.{ExpandedNode}
use Rattle.yschema_augment.specs.Hanging.{numbered}
use Rattle.yschema_expand.specs.NumberedView.{Numbered}
use Rattle.yschema_augment.specs.Searching.{first_in}
use Rattle.yschema_augment.specs.Starting.{is_child, first_child}
use Rattle.yschema_augment.proofs.SearchLemmas.{of_none}

one : Bool → ℕ → Option ℕ
one b n = cond b (Some n) None

of_assoc : (a b c : Option ℕ) → first_of (first_of a b) c ≡ first_of a (first_of b c)
of_assoc None b c = refl
of_assoc (Some n) b c = refl

pub first_append : (first : ℕ) (above : Option ℕ) (name : NodeName) (k : ℕ) (ps qs : List (Place Part))
    → first_child first above name k (ps ++ qs) ≡ first_of (first_child first above name k ps) (first_child first above name (k + length ps) qs)
first_append first above name k [] qs = ap (λ n. first_child first above name n qs) (omega arith)
first_append first above name k (p ∷ ps) qs =
    let here : k + 1 + length ps ≡ k + suc (length ps) = omega arith in
    let head = cond (is_child first above k p.parent && is_step name p.label) (Some k) None in
    ap (first_of head) (first_append first above name (k + 1) ps qs ∙ ap (λ n. first_of (first_child first above name (k + 1) ps) (first_child first above name n qs)) here)
    ∙ sym (of_assoc head (first_child first above name (k + 1) ps) (first_child first above name (k + suc (length ps)) qs))

-- a node, what stands below it, and what comes after
pub first_node : (first : ℕ) (above : Option ℕ) (name : NodeName) (k : ℕ) (q : Option ℕ) (p : Part) (below after : Forest Part)
    → first_child first above name k (places q k (node p below after))
    ≡ first_of (cond (is_child first above k q && is_step name p) (Some k) None)
    (first_of (first_child first above name (k + 1) (places (Some k) (k + 1) below))
    (first_child first above name (k + suc (size below)) (places q (k + suc (size below)) after)))
first_node first above name k q p below after =
    let count = length-places (Some k) (k + 1) below in
    let past : k + 1 + length (places (Some k) (k + 1) below) ≡ k + suc (size below) = omega (arith, count) in
    ap (first_of (cond (is_child first above k q && is_step name p) (Some k) None))
    (first_append first above name (k + 1) (places (Some k) (k + 1) below) (places q (k + suc (size below)) after)
    ∙ ap (λ n. first_of (first_child first above name (k + 1) (places (Some k) (k + 1) below)) (first_child first above name n (places q (k + suc (size below)) after))) past)

pub no_head : (b c d : Bool) (k : ℕ) (o : Option ℕ) → b ≡ false → first_of (cond ((b && c) && d) (Some k) None) o ≡ o
no_head b c d k o e = ap (λ x. first_of (cond ((x && c) && d) (Some k) None) o) e

-- none, where no node below which these stand has that number
pub no_child : (first j : ℕ) (name : NodeName) (k : ℕ) (q : Option ℕ) (f : Forest Part) → same_number (Some j) q ≡ false → ((j < k) ⊎ (k + size f ≤ j))
    → first_child first (Some j) name k (places q k f) ≡ None
no_child first j name k q end other out = refl
no_child first j name k q (node p below after) other out =
    let past = k + suc (size below) in
    first_node first (Some j) name k q p below after
    ∙ (no_head (same_number (Some j) q) (nat_lt k first || is_some q) (is_step name p) k _ other
    ∙ ap₂ first_of (no_child first j name (k + 1) (Some k) below (ne_eqb j k (apart out)) (under out)) (no_child first j name past q after other (behind out)))
  where
    apart : ((j < k) ⊎ (k + suc (size below + size after) ≤ j)) → j ≡ k → ⊥
    apart (inl less) e = absurd (omega (arith, less, e))
    apart (inr more) e = absurd (omega (arith, more, e))

    under : ((j < k) ⊎ (k + suc (size below + size after) ≤ j)) → (j < k + 1) ⊎ (k + 1 + size below ≤ j)
    under (inl less) = inl (omega (arith, less))
    under (inr more) = inr (omega (arith, more))

    behind : ((j < k) ⊎ (k + suc (size below + size after) ≤ j)) → (j < k + suc (size below)) ⊎ (k + suc (size below) + size after ≤ j)
    behind (inl less) = inl (omega (arith, less))
    behind (inr more) = inr (omega (arith, more))

true_or : (b : Bool) → (b || true) ≡ true
true_or true = refl
true_or false = refl

-- the first of a row, where all of it are children
first_row : (b : Bool) (k : ℕ) (p : Part) (rest : Option ℕ) (more : Option (Numbered Part)) → rest ≡ option_map (λ l. l.number) more
    → first_of (cond b (Some k) None) rest ≡ option_map (λ (l : Numbered Part). l.number) (cond b (Some (record { number = k; label = p })) more)
first_row true k p rest more e = refl
first_row false k p rest more e = e

pub below_one : (first j : ℕ) (name : NodeName) (k : ℕ) (f : Forest Part) → j < k
    → first_child first (Some j) name k (places (Some j) k f) ≡ first_in name (numbered k f)
below_one first j name k end less = refl
below_one first j name k (node p below after) less =
    let past = k + suc (size below) in
    first_node first (Some j) name k (Some j) p below after
    ∙ (ap₂ (λ b o. first_of (cond (b && is_step name p) (Some k) None) (first_of o (first_child first (Some j) name past (places (Some j) past after))))
    (ap₂ (λ x y. x && y) (eq-eqb j j refl) (true_or (nat_lt k first)))
    (no_child first j name (k + 1) (Some k) below (ne_eqb j k (λ e. absurd (omega (arith, less, e)))) (inl (omega (arith, less))))
    ∙ first_row (is_step name p) k p _ _ (below_one first j name past after (omega (arith, less))))

-- ---- at the top

nothing_deeper : (first : ℕ) (name : NodeName) (k j : ℕ) (f : Forest Part) → first_child first None name k (places (Some j) k f) ≡ None
nothing_deeper first name k j end = refl
nothing_deeper first name k j (node p below after) =
    first_node first None name k (Some j) p below after
    ∙ ap₂ first_of (nothing_deeper first name (k + 1) k below) (nothing_deeper first name (k + suc (size below)) j after)

or_true : (b c : Bool) → b ≡ true → (b || c) ≡ true
or_true b c e = ap (λ x. x || c) e

pub at_top : (first : ℕ) (name : NodeName) (k : ℕ) (f : Forest Part) → k + size f ≤ first
    → first_child first None name k (places None k f) ≡ first_in name (numbered k f)
at_top first name k end within = refl
at_top first name k (node p below after) within =
    let past = k + suc (size below) in
    first_node first None name k None p below after
    ∙ (ap₂ (λ b o. first_of (cond (b && is_step name p) (Some k) None) (first_of o (first_child first None name past (places None past after))))
    (or_true (nat_lt k first) false (lt-ltb k first (omega (arith, within))))
    (nothing_deeper first name (k + 1) k below)
    ∙ first_row (is_step name p) k p _ _ (at_top first name past after (omega (arith, within))))

pub none_at_top : (first : ℕ) (name : NodeName) (k : ℕ) (f : Forest Part) → first ≤ k
    → first_child first None name k (places None k f) ≡ None
none_at_top first name k end more = refl
none_at_top first name k (node p below after) more =
    let past = k + suc (size below) in
    first_node first None name k None p below after
    ∙ (ap₂ (λ b o. first_of (cond ((b || false) && is_step name p) (Some k) None) (first_of o (first_child first None name past (places None past after))))
    (le-ltb k first (omega (arith, more)))
    (nothing_deeper first name (k + 1) k below)
    ∙ none_at_top first name past after (omega (arith, more)))

-- ---- an index with one node more

and_false : (b : Bool) → (b && false) ≡ false
and_false true = refl
and_false false = refl

none_out : (b c : Bool) (k : ℕ) → c ≡ false → cond {A = Option ℕ} (b && c) (Some k) None ≡ None
none_out b c k e = ap (λ x. cond {A = Option ℕ} (b && x) (Some k) None) e ∙ ap (λ x. cond {A = Option ℕ} x (Some k) None) (and_false b)

and_true : (b c : Bool) → c ≡ true → (b && c) ≡ b
and_true true c e = e
and_true false c e = refl

split : (a b : Bool) (o : Option ℕ) → cond (a && b) o None ≡ cond a (cond b o None) None
split true b o = refl
split false b o = refl

pub look_more : (old new : NodeIndex) (first number owner : ℕ) (parent : Option ℕ) (p : Part) (own : Text)
    → (nat_lt number first || is_some parent) ≡ true → owner ≡ p.owner → own ≡ argument_in p.source
    → ((above : Option ℕ) (m : ℕ) (t : Text) → found new Children above m t ≡ first_of (found old Children above m t)
    (cond (same_number above parent && (m == owner && is_text t own)) (Some number) None))
    → (above : Option ℕ) (name : NodeName) → look_by new above name ≡ first_of (look_by old above name)
    (cond (is_child first above number parent && is_step name p) (Some number) None)
look_more old new first number owner parent p own placed owner_is own_is is above name = by name.module_number refl
  where
    by : (o : Option ℕ) → name.module_number ≡ o
        → option_and_then (λ m. found new Children above m name.name) o ≡ first_of (option_and_then (λ m. found old Children above m name.name) o)
        (cond (is_child first above number parent && is_step name p) (Some number) None)
    by None e = sym (none_out (is_child first above number parent) (is_step name p) number
        (ap (λ o. same_number o (Some p.owner) && is_text name.name (argument_in p.source)) e))
    by (Some m) e = is above m name.name ∙ ap (first_of (found old Children above m name.name))
        (ap₂ (λ w t. cond (same_number above parent && (m == w && is_text name.name t)) (Some number) None) owner_is own_is
        ∙ ap₂ (λ c d. cond {A = Option ℕ} (c && d) (Some number) None) (sym (and_true (same_number above parent) (nat_lt number first || is_some parent) placed))
        (ap (λ o. same_number o (Some p.owner) && is_text name.name (argument_in p.source)) (sym e)))

pub not_placed : (first number : ℕ) (parent : Option ℕ) (p : Part) → (nat_lt number first || is_some parent) ≡ false
    → (above : Option ℕ) (name : NodeName) (o : Option ℕ) → o ≡ first_of o (cond (is_child first above number parent && is_step name p) (Some number) None)
not_placed first number parent p out above name o =
    let none = ap (λ b. cond {A = Option ℕ} ((same_number above parent && b) && is_step name p) (Some number) None) out
    ∙ ap (λ b. cond {A = Option ℕ} (b && is_step name p) (Some number) None) (and_false (same_number above parent)) in
    sym (ap (first_of o) none ∙ of_none o)

-- one node further
pub further : (first : ℕ) (above : Option ℕ) (name : NodeName) (slots : List (Slot ExpandedNode)) (i : ℕ) (r : Slot ExpandedNode) (before after total : Option ℕ)
    → i < length slots → r ≡ get_or slots i r
    → after ≡ first_of before (cond (is_child first above i r.parent && is_step name (part_view r.label)) (Some i) None)
    → first_of before (first_child first above name i (seen numbered_part i (laid (drop i slots)))) ≡ total
    → first_of after (first_child first above name (i + 1) (seen numbered_part (i + 1) (laid (drop (i + 1) slots)))) ≡ total
further first above name slots i r before after total within is added so_far =
    let rest = first_child first above name (i + 1) (seen numbered_part (i + 1) (laid (drop (i + 1) slots))) in
    let here = cond (is_child first above i r.parent && is_step name (part_view r.label)) (Some i) None in
    let at : drop i slots ≡ r ∷ drop (i + 1) slots = drop_more slots i r within ∙ ap (λ (x : Slot ExpandedNode). x ∷ drop (i + 1) slots) (sym is) in
    ap (λ o. first_of o rest) added ∙ (of_assoc before here rest
    ∙ (ap (λ xs. first_of before (first_child first above name i (seen numbered_part i (laid xs)))) (sym at) ∙ so_far))

-- ---- a row of the table that is gone through

pub row_read : (items slots : List (Slot ExpandedNode)) (i : ℕ) (r : Slot ExpandedNode) → items ≡ slots → i < length items → r ≡ get_or items i r
    → (i < length slots) × (r ≡ get_or slots i r)
row_read items slots i r same within is =
    let count = ap length same in (omega (arith, within, count), is ∙ ap (λ xs. get_or xs i r) same)

-- its name among others
pub row_named : (texts : List Text) (slots : List (Slot ExpandedNode)) (i : ℕ) (r : Slot ExpandedNode) → AreNames texts slots
    → (i < length slots) × (r ≡ get_or slots i r) → (i < length texts) × (text_in texts i ≡ row_name r)
row_named texts slots i r names read = names i r (slice_get-get_or slots i r read.0 ∙ ap Some (sym read.1))
