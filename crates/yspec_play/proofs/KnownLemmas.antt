-- A schema whose nodes are numbered in preorder knows each of them by its number: itself, the way to it, and what stands
-- below it.
use Rattle.std.proofs.Common.{◌≡◌, ℕ, zero, suc, ◌+◌, Bool, true, false, cond, eqb, List, [], ◌∷◌, ◌++◌, length, drop, Option, Some, None, refl, sym, ap, ap₂, ◌∙◌, subst, arith, length-append, append_assoc}
use Rattle.std.specs.Prelude.{slice_get, unwrap_or}
use Rattle.std.proofs.lemmas.Bool.{eqb-true}
use Rattle.std.proofs.lemmas.List.{append-nil}
use Rattle.yspec.specs.Forest.{Forest, end, node, size, find_below, joined_below}
use Rattle.yspec.specs.schema.Schema.{Schema, SchemaNode, ways, way_to, node_at, children_of}
use Rattle.yspec.specs.document.Fitting.{IsNumbered}
use Rattle.yspec.proofs.DocumentProofs.CheckingRowLemmas.{Has}
use Rattle.yspec.proofs.DocumentProofs.HeldNodeLemmas.{schema_has_all}

-- ---- lists

module _ {X : Type 0} where
  get_first : (xs ys : List X) (k : ℕ) (x : X) → drop k xs ≡ x ∷ ys → slice_get xs k ≡ Some x
  get_first [] ys zero x e = absurd cc
  get_first [] ys (suc k) x e = absurd cc
  get_first (z ∷ zs) ys zero x e = cc
  get_first (z ∷ zs) ys (suc k) x e = get_first zs ys k x e

  drop_first : (xs ys : List X) (k : ℕ) (x : X) → drop k xs ≡ x ∷ ys → drop (k + 1) xs ≡ ys
  drop_first [] ys zero x e = absurd cc
  drop_first [] ys (suc k) x e = absurd cc
  drop_first (z ∷ zs) ys zero x e = let one : 0 + 1 ≡ suc 0 = omega arith in ap (λ m. drop m (z ∷ zs)) one ∙ cc
  drop_first (z ∷ zs) ys (suc k) x e = let more : suc k + 1 ≡ suc (k + 1) = omega arith in
      ap (λ m. drop m (z ∷ zs)) more ∙ drop_first zs ys k x e

  drop_part : (xs front back : List X) (k n : ℕ) → drop k xs ≡ front ++ back → length front ≡ n → drop (k + n) xs ≡ back
  drop_part xs [] back k n e count = let none : k + n ≡ k = omega (arith, count) in ap (λ m. drop m xs) none ∙ e
  drop_part xs (x ∷ front) back k n e count =
      let past : k + n ≡ k + 1 + length front = omega (arith, count) in
      ap (λ m. drop m xs) past ∙ drop_part xs front back (k + 1) (length front) (drop_first xs (front ++ back) k x e) refl

-- ---- ways

pub length-ways : (above : List SchemaNode) (f : Forest SchemaNode) → length (ways above f) ≡ size f
length-ways above end = refl
length-ways above (node n below after) = ap suc (length-append (ways (above ++ n ∷ []) below) (ways above after)
    ∙ ap₂ ◌+◌ (length-ways (above ++ n ∷ []) below) (length-ways above after))

module _ (schema : Schema) where
  -- each node of a row is the schema's of its number, and the way to the row leads on to it
  abbrev pub Known : List SchemaNode → Forest SchemaNode → Type 0
  Known way end = Unit {0}
  Known way (node n below after) = (node_at schema n.number ≡ Some n) × (way_to schema n.number ≡ way ++ n ∷ [])
      × (children_of schema n.number ≡ below) × Known (way ++ n ∷ []) below × Known way after

  known_from : (f : Forest SchemaNode) (k : ℕ) (way : List SchemaNode) (rest : List (List SchemaNode)) → IsNumbered k f → Has schema f
      → drop k (ways [] schema.nodes) ≡ ways way f ++ rest → Known way f
  known_from end k way rest numbered has e = tt
  known_from (node n below after) k way rest numbered has e =
      let all = ways [] schema.nodes in
      let here = way ++ n ∷ [] in
      let inner = ways here below in
      let behind = ways way after in
      let parted : drop k all ≡ here ∷ (inner ++ (behind ++ rest)) = e ∙ ap (λ xs. here ∷ xs) (append_assoc inner behind rest) in
      let first = drop_first all (inner ++ (behind ++ rest)) k here parted in (
        has.0,
        ap (λ m. unwrap_or (slice_get all m) []) numbered.0 ∙ ap (λ o. unwrap_or o []) (get_first all (inner ++ (behind ++ rest)) k here parted),
        has.1,
        known_from below (k + 1) here (behind ++ rest) numbered.1 has.2 first,
        known_from after (k + 1 + size below) way rest numbered.2 has.3 (drop_part all inner (behind ++ rest) (k + 1) (size below) first (length-ways here below)),
      )

  pub schema_known : IsNumbered 0 schema.nodes → Known [] schema.nodes
  schema_known numbered = known_from schema.nodes 0 [] [] numbered (schema_has_all schema numbered) (sym (append-nil (ways [] schema.nodes)))

  -- ---- the row below a node

  -- what is known of a row at the end of a way
  pub record IsRow (way : List SchemaNode) (f : Forest SchemaNode) : Type 0 where
    pub first : ℕ
    pub numbered : IsNumbered first f
    pub known : Known way f

  no_row : (way : List SchemaNode) → IsRow way end
  no_row way = record { first = 0; numbered = tt; known = tt }

  row_found : (f : Forest SchemaNode) (k : ℕ) (way : List SchemaNode) (number : ℕ) → IsNumbered k f → Known way f
      → (g : Forest SchemaNode) → find_below (λ (n : SchemaNode). eqb n.number number) f ≡ Some g → IsRow (way_to schema number) g
  row_found end k way number numbered known g e = absurd cc
  row_found (node n below after) k way number numbered known g e =
      by (eqb n.number number) refl (find_below (λ (n : SchemaNode). eqb n.number number) below) refl e
      (row_found below (k + 1) (way ++ n ∷ []) number numbered.1 known.3) (row_found after (k + 1 + size below) way number numbered.2 known.4 g)
    where
      by : (b : Bool) → eqb n.number number ≡ b → (o : Option (Forest SchemaNode)) → find_below (λ (n : SchemaNode). eqb n.number number) below ≡ o
          → cond b (Some below) (joined_below o (find_below (λ (n : SchemaNode). eqb n.number number) after)) ≡ Some g
          → ((h : Forest SchemaNode) → find_below (λ (n : SchemaNode). eqb n.number number) below ≡ Some h → IsRow (way_to schema number) h)
          → (find_below (λ (n : SchemaNode). eqb n.number number) after ≡ Some g → IsRow (way_to schema number) g) → IsRow (way_to schema number) g
      by true same o is e inner later =
          let is_here : below ≡ g = cc in
          subst (IsRow (way_to schema number)) is_here
          (record { first = k + 1; numbered = numbered.1; known = subst (λ (w : List SchemaNode). Known w below) (sym known.1 ∙ ap (way_to schema) (eqb-true n.number number same)) known.3 })
      by false other (Some h) is e inner later = let is_here : h ≡ g = cc in inner g (is ∙ ap (λ (x : Forest SchemaNode). Some x) is_here)
      by false other None is e inner later = later e

  pub row_known : (number : ℕ) → IsNumbered 0 schema.nodes → IsRow (way_to schema number) (children_of schema number)
  row_known number numbered = by (find_below (λ (n : SchemaNode). eqb n.number number) schema.nodes) refl
    where
      by : (o : Option (Forest SchemaNode)) → find_below (λ (n : SchemaNode). eqb n.number number) schema.nodes ≡ o → IsRow (way_to schema number) (unwrap_or o end)
      by (Some g) is = row_found schema.nodes 0 [] number numbered (schema_known numbered) g is
      by None is = no_row (way_to schema number)
