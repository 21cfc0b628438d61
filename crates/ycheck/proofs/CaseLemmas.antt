-- What stands at the front of what is left of a row in order, and which cases are in play by it.
use Rattle.std.proofs.Common.{◌≡◌, ℕ, zero, suc, ◌+◌, ◌≤◌, ◌<◌, Bool, true, false, cond, ◌||◌, eqb, ltb, List, [], ◌∷◌, ◌++◌, length, take, drop, length-take, length-drop, get_or, Option, Some, None, refl, sym, ap, ap₂, ◌∙◌, subst, append_assoc, arith}
use Rattle.std.proofs.lemmas.Bool.{eqb-true, eqb-false, eq-eqb, lt-ltb, ltb-true}
use Rattle.std.proofs.lemmas.List.{at_drop_more, at_drop_all}
use Rattle.std.proofs.lemmas.List.Folds.{list_any-append}
use Rattle.yspec.specs.Forest.{Forest, end, node, size}
use Rattle.yspec.specs.schema.Schema.{SchemaNode, is_data}
use Rattle.yspec.specs.document.Document.{Stored, Tree, instances_in}
use Rattle.yspec.specs.document.Fitting.{IsNumbered}
use Rattle.yspec.specs.document.Play.{stored_among, stored_cases, or_default, is_among}
use Rattle.yspec.specs.document.Sorting.{StartsAt, IsSorted, from_number}
use Rattle.yspec.proofs.DocumentProofs.CursorLemmas.{sorted_left}
use Rattle.yspec.proofs.DocumentProofs.FittingLemmas.{eqb_other, instances-cons, none_of_others}
use Rattle.yschema_model.specs.declared.children.Slot.{Slot}
use Rattle.yschema_model.specs.declared.children.Children.{Children}
use Rattle.yschema_model.specs.declared.node.SchemaId.{SchemaId}
use Rattle.yschema_model.specs.Layout.{forest_within}
use Rattle.yschema_model.specs.View as schema_view
use Rattle.yschema_model.proofs.QueryLemmas.{size_of_forest}
use Rattle.yinst_tree.specs.View.{view, row_view}
use Rattle.yinst_tree.specs.Walk.{behind, others}
use Rattle.yinst_tree.specs.declared.tree.Stored as tree
use Rattle.ycheck.specs.declared.cases.StoredCases.{StoredCases}
use Rattle.ycheck.specs.declared.cases.StoredCases.TheVariants as count
use Rattle.ycheck.specs.declared.cases.Chosen.TheVariants as chosen
use Rattle.ycheck.specs.Cases.{one_more, how_many, Chooses}

-- ---- rows of schema nodes

numbered_within : (n k : ℕ) (rows : List Slot) → length rows ≤ n → IsNumbered k (forest_within n k rows)
unfolding forest_within
numbered_within zero k rows within = tt
numbered_within (suc n) k [] within = tt
numbered_within (suc n) k (r ∷ rows) within =
    let fewer = length-take r.below rows in
    let rest = length-drop r.below rows in (
      refl,
      numbered_within n (k + 1) (take r.below rows) (omega (arith, fewer, within)),
      subst (λ j. IsNumbered (k + 1 + j) (forest_within n (k + 1 + length (take r.below rows)) (drop r.below rows)))
          (sym (size_of_forest n (k + 1) (take r.below rows) (omega (arith, fewer, within))))
          (numbered_within n (k + 1 + length (take r.below rows)) (drop r.below rows) (omega (arith, rest, within))),
    )

-- the nodes of any row count up from its number
pub numbered_row : (c : Children) → IsNumbered c.number (schema_view.row_view c)
numbered_row c = numbered_within (length c.slots.now) c.number c.slots.now (omega arith)

-- ---- counts that agree from a number on

pub among_same : (f : Forest SchemaNode) (k : ℕ) (s r : ℕ → ℕ) → IsNumbered k f → ((m : ℕ) → k ≤ m → s m ≡ r m) → stored_among s f ≡ stored_among r f
among_same end k s r numbered same = refl
among_same (node n below after) k s r numbered same = ap₂ ◌+◌
    (ap₂ (cond (is_data n.kind)) (same n.number (omega (arith, numbered.0))) (among_same below (k + 1) s r numbered.1 (λ m from. same m (omega (arith, from)))))
    (among_same after (k + 1 + size below) s r numbered.2 (λ m from. same m (omega (arith, from))))

pub cases_same : (f : Forest SchemaNode) (k : ℕ) (s r : ℕ → ℕ) → IsNumbered k f → ((m : ℕ) → k ≤ m → s m ≡ r m) → stored_cases s f ≡ stored_cases r f
cases_same end k s r numbered same = refl
cases_same (node n below after) k s r numbered same = ap₂ ◌++◌
    (ap (λ c. cond (ltb 0 c) (n.number ∷ []) []) (among_same below (k + 1) s r numbered.1 (λ m from. same m (omega (arith, from)))))
    (cases_same after (k + 1 + size below) s r numbered.2 (λ m from. same m (omega (arith, from))))

pub counts_from : (n m : ℕ) (t : Tree) → n ≤ m → instances_in (from_number n t) m ≡ instances_in t m
counts_from n m end lower = refl
counts_from n m (node s below after) lower = by (ltb s.schema_number n) refl (counts_from n m after lower)
  where
    by : (b : Bool) → ltb s.schema_number n ≡ b → instances_in (from_number n after) m ≡ instances_in after m
        → instances_in (cond b (from_number n after) (node s below after)) m ≡ instances_in (node s below after) m
    by true is h = h ∙ sym (none_of_others s below after m (eqb_other s.schema_number m (λ e. absurd (omega (arith, e, lower, ltb-true s.schema_number n is)))))
    by false is h = refl

counts_behind : (n m : ℕ) (t : Tree) → n < m → instances_in (behind n t) m ≡ instances_in t m
counts_behind n m end past = refl
counts_behind n m (node s below after) past = by (eqb s.schema_number n) refl (counts_behind n m after past)
  where
    by : (b : Bool) → eqb s.schema_number n ≡ b → instances_in (behind n after) m ≡ instances_in after m
        → instances_in (cond b (behind n after) (node s below after)) m ≡ instances_in (node s below after) m
    by true is h = h ∙ sym (none_of_others s below after m (eqb_other s.schema_number m (λ e. absurd (omega (arith, e, past, eqb-true s.schema_number n is)))))
    by false is h = refl

-- behind the instances of a node the later ones stand as before
pub counts_others : (n m : ℕ) (t : Tree) → n < m → instances_in (others n t) m ≡ instances_in t m
counts_others n m t past = counts_behind n m (from_number n t) past ∙ counts_from n m t (omega (arith, past))

sorted_behind : (n : ℕ) (t : Tree) → IsSorted t → IsSorted (behind n t)
sorted_behind n end sorted = tt
sorted_behind n (node s below after) sorted = by (eqb s.schema_number n) (sorted_behind n after sorted.2)
  where
    by : (b : Bool) → IsSorted (behind n after) → IsSorted (cond b (behind n after) (node s below after))
    by true h = h
    by false h = sorted

pub sorted_others : (n : ℕ) (t : Tree) → IsSorted t → IsSorted (others n t)
sorted_others n t sorted = sorted_behind n (from_number n t) (sorted_left t n sorted).0

-- ---- whether a node is stored

none_before : (t : Tree) (k m : ℕ) → IsSorted t → StartsAt k t → m < k → instances_in t m ≡ 0
none_before end k m sorted starts before = refl
none_before (node s below after) k m sorted starts before =
    none_of_others s below after m (eqb_other s.schema_number m (λ e. absurd (omega (arith, e, starts, before))))
    ∙ none_before after s.schema_number m sorted.2 sorted.0 (omega (arith, starts, before))

-- the first that doesn't stand before a node is one, or there is none
first_stored : (t : Tree) (s : Stored) (below after : Tree) (m : ℕ) → t ≡ node s below after → IsSorted t → m ≤ s.schema_number
    → eqb s.schema_number m ≡ ltb 0 (instances_in t m)
first_stored t s below after m is sorted from =
    let here : IsSorted (node s below after) = subst IsSorted is sorted in
    by (eqb s.schema_number m) refl here ∙ ap (λ u. ltb 0 (instances_in u m)) (sym is)
  where
    by : (b : Bool) → eqb s.schema_number m ≡ b → IsSorted (node s below after) → b ≡ ltb 0 (instances_in (node s below after) m)
    by true e here = sym (ap (ltb 0) (instances-cons s below after m ∙ ap (λ c. cond c 1 0 + instances_in after m) e) ∙ lt-ltb 0 (1 + instances_in after m) (omega arith))
    by false e here = sym (ap (ltb 0) (none_of_others s below after m e
        ∙ none_before after s.schema_number m here.2 here.0 (omega (arith, from, eqb-false s.schema_number m e))))

-- what is left of stored nodes, from one on
pub left_at : (ss : List tree.Stored) (i : ℕ) (s : tree.Stored) → i < length ss → s ≡ get_or ss i s
    → row_view (drop i ss) ≡ node (view s).0 (view s).1 (row_view (drop (i + 1) ss))
left_at ss i s within is = at_drop_more row_view ss i s within ∙ ap (λ (x : tree.Stored). row_view (x ∷ drop (i + 1) ss)) (sym is)

pub left_ended : (ss : List tree.Stored) (i : ℕ) → length ss ≤ i → row_view (drop i ss) ≡ end
left_ended ss i ended = at_drop_all row_view ss i ended

-- nodes that stand before another are passed over
abbrev pub IsPassed : ℕ → Tree → Tree → Type 0
IsPassed m t rest = IsSorted t → IsSorted rest × (instances_in rest m ≡ instances_in t m)

pub pass_found : (m : ℕ) (t rest : Tree) (s : Stored) (below after : Tree) → rest ≡ node s below after → m ≤ s.schema_number → IsPassed m t rest
    → IsSorted t → eqb s.schema_number m ≡ ltb 0 (instances_in t m)
pass_found m t rest s below after is from passed sorted =
    let so = passed sorted in first_stored rest s below after m is so.0 from ∙ ap (ltb 0) so.1

-- ---- how many cases

abbrev pub with_more : StoredCases → List ℕ → StoredCases
with_more count.Zero ns = how_many ns
with_more count.One [] = count.One
with_more count.One (n ∷ ns) = count.Several
with_more count.Several ns = count.Several

more_first : (c : StoredCases) (n : ℕ) (ns : List ℕ) → with_more (one_more c) ns ≡ with_more c (n ∷ ns)
more_first count.Zero n [] = refl
more_first count.Zero n (m ∷ ns) = refl
more_first count.One n ns = refl
more_first count.Several n ns = refl

pub more_none : (c : StoredCases) → with_more c [] ≡ c
more_none count.Zero = refl
more_none count.One = refl
more_none count.Several = refl

-- one case, met at the front of what is left, and what is left behind it
pub count_case : (c next : StoredCases) (b : Bool) (f after below : Forest SchemaNode) (n : SchemaNode) (k : ℕ) (number : ℕ) (left rest : Tree)
    → IsNumbered k f → f ≡ node n below after → number ≡ n.number → rest ≡ others number left → IsSorted left
    → (IsSorted rest → b ≡ ltb 0 (stored_among (instances_in rest) below)) → next ≡ cond b (one_more c) c
    → IsSorted rest × (with_more next (stored_cases (instances_in rest) after) ≡ with_more c (stored_cases (instances_in left) f))
count_case c next b f after below n k number left rest numbered is number_is rest_is sorted met next_is =
    let here : IsNumbered k (node n below after) = subst (IsNumbered k) is numbered in
    let rest_sorted : IsSorted rest = subst IsSorted (sym rest_is) (sorted_others number left sorted) in
    let same : (m : ℕ) → n.number < m → instances_in rest m ≡ instances_in left m =
    λ m past. ap (λ u. instances_in u m) rest_is ∙ counts_others number m left (omega (arith, number_is, past)) in
    let among = among_same below (k + 1) (instances_in rest) (instances_in left) here.1 (λ m from. same m (omega (arith, from, here.0))) in
    let behind_it = cases_same after (k + 1 + size below) (instances_in rest) (instances_in left) here.2 (λ m from. same m (omega (arith, from, here.0))) in (
      rest_sorted,
      ap₂ with_more next_is behind_it
          ∙ (by b (stored_cases (instances_in left) after)
          ∙ (ap (λ x. with_more c (cond x (n.number ∷ []) [] ++ stored_cases (instances_in left) after)) (met rest_sorted ∙ ap (ltb 0) among)
          ∙ ap (λ g. with_more c (stored_cases (instances_in left) g)) (sym is))),
    )
  where
    by : (b : Bool) (ns : List ℕ) → with_more (cond b (one_more c) c) ns ≡ with_more c (cond b (n.number ∷ []) [] ++ ns)
    by true ns = more_first c n.number ns
    by false ns = refl

-- ---- whether one is stored

-- none of the nodes before those that are left
abbrev pub NoneYet : Tree → Forest SchemaNode → Forest SchemaNode → Type 0
NoneYet t left whole = IsSorted t → stored_among (instances_in t) left ≡ stored_among (instances_in t) whole

among_first : (stored : ℕ → ℕ) (n : SchemaNode) (below after : Forest SchemaNode) → stored_among stored (node n below after) ≡ stored_among stored (node n below end) + stored_among stored after
among_first stored n below after = omega arith

-- ---- the chosen cases

numbers_above : (stored : ℕ → ℕ) (f : Forest SchemaNode) (k m : ℕ) → IsNumbered k f → m < k → is_among (stored_cases stored f) m ≡ false
numbers_above stored end k m numbered before = refl
numbers_above stored (node n below after) k m numbered before =
    list_any-append (λ j. eqb j m) (cond (ltb 0 (stored_among stored below)) (n.number ∷ []) []) (stored_cases stored after)
    ∙ (ap₂ ◌||◌ (by (ltb 0 (stored_among stored below))) (numbers_above stored after (k + 1 + size below) m numbered.2 (omega (arith, before))))
  where
    by : (b : Bool) → is_among (cond b (n.number ∷ []) []) m ≡ false
    by true = ap (λ c. c || false) (eqb_other n.number m (λ e. absurd (omega (arith, e, before, numbered.0))))
    by false = refl

each_stored : (stored : ℕ → ℕ) (f : Forest SchemaNode) (k : ℕ) (before numbers : List ℕ) → IsNumbered k f → ((m : ℕ) → k ≤ m → is_among before m ≡ false)
    → numbers ≡ before ++ stored_cases stored f → Chooses chosen.EachStored stored numbers f
each_stored stored end k before numbers numbered none is = tt
each_stored stored (node n below after) k before numbers numbered none is =
    let b = ltb 0 (stored_among stored below) in
    let here : List ℕ = cond b (n.number ∷ []) [] in
    let rest = stored_cases stored after in (
      ap (λ ns. is_among ns n.number) is ∙ (list_any-append (λ j. eqb j n.number) before (here ++ rest)
          ∙ (ap₂ ◌||◌ (none n.number (omega (arith, numbered.0))) (list_any-append (λ j. eqb j n.number) here rest)
          ∙ own b (numbers_above stored after (k + 1 + size below) n.number numbered.2 (omega (arith, numbered.0))))),
      each_stored stored after (k + 1 + size below) (before ++ here) numbers numbered.2
          (λ m from. list_any-append (λ j. eqb j m) before here ∙ ap₂ ◌||◌ (none m (omega (arith, from))) (other b m (omega (arith, from, numbered.0))))
          (is ∙ sym (append_assoc before here rest)),
    )
  where
    own : (b : Bool) → is_among (stored_cases stored after) n.number ≡ false
        → (is_among (cond b (n.number ∷ []) []) n.number || is_among (stored_cases stored after) n.number) ≡ b
    own true e = ap (λ c. (c || false) || is_among (stored_cases stored after) n.number) (eq-eqb n.number n.number refl)
    own false e = e

    other : (b : Bool) (m : ℕ) → n.number < m → is_among (cond b (n.number ∷ []) []) m ≡ false
    other true m past = ap (λ c. c || false) (eqb_other n.number m (λ e. absurd (omega (arith, e, past))))
    other false m past = refl

pub no_case : (stored : ℕ → ℕ) (f : Forest SchemaNode) → Chooses chosen.NoCase stored [] f
no_case stored end = tt
no_case stored (node n below after) = (refl, no_case stored after)

only_default : (stored : ℕ → ℕ) (id : SchemaId) (f : Forest SchemaNode) → Chooses (chosen.Only id) stored (id.0 ∷ []) f
only_default stored id end = tt
only_default stored id (node n below after) = (by (eqb id.0 n.number), only_default stored id after)
  where
    by : (b : Bool) → (b || false) ≡ b
    by true = refl
    by false = refl

no_numbers : (ns : List ℕ) → count.Zero ≡ how_many ns → ns ≡ []
no_numbers [] e = refl
no_numbers (n ∷ []) e = absurd cc
no_numbers (n ∷ m ∷ ns) e = absurd cc

-- where no case has a stored data node
pub none_chosen : (stored : ℕ → ℕ) (f : Forest SchemaNode) → count.Zero ≡ how_many (stored_cases stored f) → Chooses chosen.NoCase stored (or_default None (stored_cases stored f)) f
none_chosen stored f none = subst (λ ns. Chooses chosen.NoCase stored (or_default None ns) f) (sym (no_numbers (stored_cases stored f) none)) (no_case stored f)

pub default_chosen : (stored : ℕ → ℕ) (id : SchemaId) (f : Forest SchemaNode) → count.Zero ≡ how_many (stored_cases stored f)
    → Chooses (chosen.Only id) stored (or_default (Some id.0) (stored_cases stored f)) f
default_chosen stored id f none = subst (λ ns. Chooses (chosen.Only id) stored (or_default (Some id.0) ns) f) (sym (no_numbers (stored_cases stored f) none)) (only_default stored id f)

-- where one or several have
pub stored_chosen : (stored : ℕ → ℕ) (default_case : Option ℕ) (c : StoredCases) (f : Forest SchemaNode) (k : ℕ) → (c ≡ count.Zero → ⊥) → IsNumbered k f
    → c ≡ how_many (stored_cases stored f) → Chooses chosen.EachStored stored (or_default default_case (stored_cases stored f)) f
stored_chosen stored default_case c f k some numbered is =
    each_stored stored f k [] (or_default default_case (stored_cases stored f)) numbered (λ m from. refl) (by (stored_cases stored f) (λ e. some (is ∙ e)))
  where
    by : (ns : List ℕ) → (how_many ns ≡ count.Zero → ⊥) → or_default default_case ns ≡ ns
    by [] some = absurd (some refl)
    by (n ∷ ns) some = refl
