-- The way to a node is the way to the node above it, and itself.
use Rattle.std.proofs.Common.{◌≡◌, ℕ, zero, suc, ◌+◌, ◌<◌, ◌≤◌, List, [], ◌∷◌, ◌++◌, length, drop, Option, Some, None, refl, sym, ap, ap₂, ◌∙◌, subst, arith, length-append, append_assoc}
use Rattle.std.specs.Prelude.{option_map, slice_get, unwrap_or, IfSome}
use Rattle.std.proofs.lemmas.Option.{slice_get_past}
use Rattle.std.proofs.lemmas.List.{append-nil}
use Rattle.yspec.specs.Forest.{Forest, node, end, size}
use Rattle.yspec.specs.schema.Schema.{SchemaNode, ways, way_to, node_at}
use Rattle.yspec.specs.document.Fitting.{IsNumbered}
use Rattle.yschema_model.specs.declared.children.Slot.{Slot}
use Rattle.yschema_model.specs.declared.node.SchemaId.{SchemaId}
use Rattle.yschema_model.specs.declared.schema.SchemaModule.{SchemaModule}
use Rattle.yschema_model.specs.Layout.{Place, place_of, places, laid, forest_of, node_view, number_of, schema_view, IsLaidOut}
use Rattle.yschema_model.specs.Lookup.{alone, way_above}
use Rattle.yschema_model.proofs.ChildLemmas.{numbered_laid}
use Rattle.yschema_model.proofs.LayoutLemmas.{length-laid, length-places}
use Rattle.yschema_model.proofs.QueryLemmas.{label_at, laid_out_fits}

-- ---- lists

module _ {X : Type 0} where
  get_first : (xs ys : List X) (k : ℕ) (x : X) → drop k xs ≡ x ∷ ys → slice_get xs k ≡ Some x
  get_first [] ys zero x e = absurd cc
  get_first [] ys (suc k) x e = absurd cc
  get_first (z ∷ zs) ys zero x e = cc
  get_first (z ∷ zs) ys (suc k) x e = get_first zs ys k x e

  drop_first : (xs ys : List X) (k : ℕ) (x : X) → drop k xs ≡ x ∷ ys → drop (k + 1) xs ≡ ys
  drop_first [] ys zero x e = absurd cc
  drop_first [] ys (suc k) x e = absurd cc
  drop_first (z ∷ zs) ys zero x e = let one : 0 + 1 ≡ suc 0 = omega arith in ap (λ m. drop m (z ∷ zs)) one ∙ cc
  drop_first (z ∷ zs) ys (suc k) x e = let more : suc k + 1 ≡ suc (k + 1) = omega arith in
      ap (λ m. drop m (z ∷ zs)) more ∙ drop_first zs ys k x e

  drop_part : (xs front back : List X) (k n : ℕ) → drop k xs ≡ front ++ back → length front ≡ n → drop (k + n) xs ≡ back
  drop_part xs [] back k n e count = let none : k + n ≡ k = omega (arith, count) in ap (λ m. drop m xs) none ∙ e
  drop_part xs (x ∷ front) back k n e count =
      let past : k + n ≡ k + 1 + length front = omega (arith, count) in
      ap (λ m. drop m xs) past ∙ drop_part xs front back (k + 1) (length front) (drop_first xs (front ++ back) k x e) refl

-- ---- ways

length-ways : (above : List SchemaNode) (f : Forest SchemaNode) → length (ways above f) ≡ size f
length-ways above end = refl
length-ways above (node n below after) = ap suc (length-append (ways (above ++ n ∷ []) below) (ways above after)
    ∙ ap₂ (λ a b. a + b) (length-ways (above ++ n ∷ []) below) (length-ways above after))

-- the way to a parent, given the ways to all nodes
abbrev pub way_in : List (List SchemaNode) → Option ℕ → List SchemaNode
way_in all None = []
way_in all (Some number) = unwrap_or (slice_get all number) []

abbrev pub IsAbove : ℕ → Option ℕ → Type 0
IsAbove k None = Unit {0}
IsAbove k (Some parent) = parent < k

-- each place, from a number on, has the way to its parent, and itself
WaysFrom : List (List SchemaNode) → ℕ → List Place → Type 0
WaysFrom all k [] = Unit {0}
WaysFrom all k (p ∷ ps) = (slice_get all k ≡ Some (way_in all p.parent ++ p.label ∷ [])) × IsAbove k p.parent × WaysFrom all (k + 1) ps

module _ (all : List (List SchemaNode)) where
  ways_joined : (k : ℕ) (ps qs : List Place) → WaysFrom all k ps → WaysFrom all (k + length ps) qs → WaysFrom all k (ps ++ qs)
  unfolding WaysFrom
  ways_joined k [] qs first second = let none : k + 0 ≡ k = omega arith in subst (λ m. WaysFrom all m qs) none second
  ways_joined k (p ∷ ps) qs first second = let past : k + suc (length ps) ≡ k + 1 + length ps = omega arith in
      (first.0, first.1, ways_joined (k + 1) ps qs first.2 (subst (λ m. WaysFrom all m qs) past second))

  above_later : (k j : ℕ) (parent : Option ℕ) → k ≤ j → IsAbove k parent → IsAbove j parent
  above_later k j None h a = tt
  above_later k j (Some parent) h a = omega (arith, h, a)

  ways_of : (f : Forest SchemaNode) (k : ℕ) (parent : Option ℕ) (above : List SchemaNode) (rest : List (List SchemaNode))
      → IsNumbered k f → way_in all parent ≡ above → IsAbove k parent → drop k all ≡ ways above f ++ rest → WaysFrom all k (places parent f)
  unfolding WaysFrom
  ways_of end k parent above rest numbered stands before e = tt
  ways_of (node l below after) k parent above rest numbered stands before e =
      let here = above ++ l ∷ [] in
      let inner = ways here below in
      let behind = ways above after in
      let parted : drop k all ≡ here ∷ (inner ++ (behind ++ rest)) = e ∙ ap (λ xs. here ∷ xs) (append_assoc inner behind rest) in
      let got = get_first all (inner ++ (behind ++ rest)) k here parted in
      let first = drop_first all (inner ++ (behind ++ rest)) k here parted in
      let second = drop_part all inner (behind ++ rest) (k + 1) (size below) first (length-ways here below) in
      let own : way_in all (Some l.number) ≡ here = ap (λ n. unwrap_or (slice_get all n) []) numbered.0 ∙ ap (λ o. unwrap_or o []) got in
      let sized : k + 1 + length (places (Some l.number) below) ≡ k + 1 + size below = ap (λ n. k + 1 + n) (length-places (Some l.number) below) in (
        got ∙ ap (λ w. Some (w ++ l ∷ [])) (sym stands),
        before,
        ways_joined (k + 1) (places (Some l.number) below) (places parent after)
            (ways_of below (k + 1) (Some l.number) here (behind ++ rest) numbered.1 own (omega (arith, numbered.0)) first)
            (subst (λ n. WaysFrom all n (places parent after)) (sym sized)
            (ways_of after (k + 1 + size below) parent above rest numbered.2 stands (above_later k (k + 1 + size below) parent (omega arith) before) second)),
      )

  way_at : (k i : ℕ) (ps : List Place) (p : Place) → WaysFrom all k ps → slice_get ps i ≡ Some p
      → (slice_get all (k + i) ≡ Some (way_in all p.parent ++ p.label ∷ [])) × IsAbove (k + i) p.parent
  unfolding WaysFrom
  way_at k i [] p w e = absurd cc
  way_at k zero (q ∷ ps) p w e = let none : k + 0 ≡ k = omega arith in let same : q ≡ p = cc in
      subst (λ x. (slice_get all (k + 0) ≡ Some (way_in all x.parent ++ x.label ∷ [])) × IsAbove (k + 0) x.parent) same
      (subst (λ m. (slice_get all m ≡ Some (way_in all q.parent ++ q.label ∷ [])) × IsAbove m q.parent) (sym none) (w.0, w.1))
  way_at k (suc i) (q ∷ ps) p w e = let past : k + suc i ≡ k + 1 + i = omega arith in
      subst (λ m. (slice_get all m ≡ Some (way_in all p.parent ++ p.label ∷ [])) × IsAbove m p.parent) (sym past)
      (way_at (k + 1) i ps p w.2 e)

-- the way to the node of a place, whose number is that of the place
pub way_of_place : (f : Forest SchemaNode) (i : ℕ) (p : Place) → IsNumbered 0 f → slice_get (places None f) i ≡ Some p
    → (slice_get (ways [] f) i ≡ Some (way_in (ways [] f) p.parent ++ p.label ∷ [])) × IsAbove i p.parent
way_of_place f i p numbered e =
    let start : 0 + i ≡ i = omega arith in
    subst (λ m. (slice_get (ways [] f) m ≡ Some (way_in (ways [] f) p.parent ++ p.label ∷ [])) × IsAbove m p.parent) start
    (way_at (ways [] f) 0 i (places None f) p (ways_of (ways [] f) f 0 None [] [] numbered refl tt (sym (append-nil (ways [] f)))) e)

-- ---- in a schema

laid_at : (k i : ℕ) (slots : List Slot) → slice_get (laid k slots) i ≡ option_map (place_of (k + i)) (slice_get slots i)
laid_at k i [] = refl
laid_at k zero (r ∷ slots) = let none : k ≡ k + 0 = omega arith in ap (λ m. Some (place_of m r)) none
laid_at k (suc i) (r ∷ slots) = let past : k + 1 + i ≡ k + suc i = omega arith in
    laid_at (k + 1) i slots ∙ ap (λ m. option_map (place_of m) (slice_get slots i)) past

above_id : (k : ℕ) (o : Option SchemaId) → IsAbove k (number_of o) → IfSome o (λ p. p.0 < k)
above_id k None a = tt
above_id k (Some p) a = a

past_end : (slots : List Slot) (id : ℕ) → slice_get slots id ≡ None → length slots ≤ id
past_end [] id e = omega arith
past_end (r ∷ slots) zero e = absurd cc
past_end (r ∷ slots) (suc id) e = omega (arith, past_end slots id e)

abbrev pub IsParent : List SchemaModule → List Slot → ℕ → Option SchemaId → Type 0
IsParent modules slots id o = (way_to (schema_view modules slots) id ≡ way_above (schema_view modules slots) (number_of o) ++ alone (node_at (schema_view modules slots) id))
    × IfSome o (λ p. p.0 < id)

-- the way to the node of a slot
pub way_of_row : (modules : List SchemaModule) (slots : List Slot) (id : ℕ) (r : Slot) → IsLaidOut slots → slice_get slots id ≡ Some r
    → IsParent modules slots id r.parent
way_of_row modules slots id r laid_out there =
    let f = forest_of 0 slots in
    let start : 0 + id ≡ id = omega arith in
    let placed : slice_get (places None f) id ≡ Some (place_of id r) = ap (λ ps. slice_get ps id) (sym laid_out)
    ∙ (laid_at 0 id slots ∙ (ap (λ m. option_map (place_of m) (slice_get slots id)) start ∙ ap (option_map (place_of id)) there)) in
    let found = way_of_place f id (place_of id r) (numbered_laid f None 0 slots laid_out) placed in
    let here : node_at (schema_view modules slots) id ≡ Some (node_view id r.node) =
    label_at slots id (laid_out_fits slots laid_out) ∙ ap (option_map (λ x. node_view id x.node)) there in (
      ap (λ o. unwrap_or o []) found.0 ∙ (way_in-is modules slots (number_of r.parent) (node_view id r.node)
          ∙ ap (λ o. way_above (schema_view modules slots) (number_of r.parent) ++ alone o) (sym here)),
      above_id id r.parent found.1,
    )
  where
    way_in-is : (modules : List SchemaModule) (slots : List Slot) (o : Option ℕ) (n : SchemaNode)
        → way_in (ways [] (forest_of 0 slots)) o ++ n ∷ [] ≡ way_above (schema_view modules slots) o ++ n ∷ []
    way_in-is modules slots None n = refl
    way_in-is modules slots (Some number) n = refl

-- nothing leads to a number that no node has
pub no_way : (modules : List SchemaModule) (slots : List Slot) (id : ℕ) → IsLaidOut slots → slice_get slots id ≡ None → IsParent modules slots id None
no_way modules slots id laid_out there =
    let f = forest_of 0 slots in
    let count : length (ways [] f) ≡ length slots = length-ways [] f ∙ (sym (length-places None f) ∙ (ap length (sym laid_out) ∙ length-laid 0 slots)) in
    let here : node_at (schema_view modules slots) id ≡ None = label_at slots id (laid_out_fits slots laid_out) ∙ ap (option_map (λ x. node_view id x.node)) there in (
      ap (λ o. unwrap_or o []) (slice_get_past (ways [] f) id (omega (arith, count, past_end slots id there))) ∙ ap alone (sym here),
      tt,
    )
