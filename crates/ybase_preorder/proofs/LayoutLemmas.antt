-- Rows that lie as a forest does.
use Rattle.std.proofs.Common.{◌≡◌, ℕ, zero, suc, ◌+◌, ◌≤◌, List, [], ◌∷◌, ◌++◌, length, take, drop, Option, Some, None, refl, sym, ap, ap₂, ◌∙◌, append_assoc, arith, length-append, length-take}
use Rattle.std.proofs.lemmas.List.{take_at, drop_at, length-map}
use Rattle.yspec.specs.Forest.{Forest, node, end, size, join}
use Rattle.ybase_preorder.specs.declared.slot.Slot.{Slot}
use Rattle.ybase_preorder.specs.Layout.{Place, place_of, places, laid, opened, closed, seen, numbered_by, Shows, forest_of, IsLaidOut}
use Rattle.ybase_preorder.proofs.RowLemmas.{forest_of-cons, no_node}
use Rattle.ybase_preorder.proofs.TableLemmas.{closed_at}

module _ {L : Type 0} where
  pub length-places : (p : Option ℕ) (k : ℕ) (f : Forest L) → length (places p k f) ≡ size f
  length-places p k end = refl
  length-places p k (node l below after) = ap suc (length-append (places (Some k) (k + 1) below) (places p (k + suc (size below)) after)
      ∙ ap₂ (λ a b. a + b) (length-places (Some k) (k + 1) below) (length-places p (k + suc (size below)) after))

  pub places-join : (p : Option ℕ) (k : ℕ) (f g : Forest L) → places p k (join f g) ≡ places p k f ++ places p (k + size f) g
  places-join p k end g = ap (λ n. places p n g) (omega arith)
  places-join p k (node l below after) g =
      let here : k + suc (size below) + size after ≡ k + suc (size below + size after) = omega arith in
      ap (λ rest. record { parent = p; label = l; below = size below } ∷ rest)
      (ap (λ rest. places (Some k) (k + 1) below ++ rest) (places-join p (k + suc (size below)) after g ∙ ap (λ n. places p (k + suc (size below)) after ++ places p n g) here)
      ∙ sym (append_assoc (places (Some k) (k + 1) below) (places p (k + suc (size below)) after) (places p (k + suc (size below + size after)) g)))

  pub length-laid : (slots : List (Slot L)) → length (laid slots) ≡ length slots
  length-laid slots = length-map slots place_of

  laid_take : (n : ℕ) (slots : List (Slot L)) → laid (take n slots) ≡ take n (laid slots)
  laid_take zero slots = refl
  laid_take (suc n) [] = refl
  laid_take (suc n) (r ∷ slots) = ap (λ ps. place_of r ∷ ps) (laid_take n slots)

  laid_drop : (n : ℕ) (slots : List (Slot L)) → laid (drop n slots) ≡ drop n (laid slots)
  laid_drop zero slots = refl
  laid_drop (suc n) [] = refl
  laid_drop (suc n) (r ∷ slots) = laid_drop n slots

  whole_laid : (n : ℕ) (slots : List (Slot L)) → laid slots ≡ laid (take n slots) ++ laid (drop n slots)
  whole_laid zero slots = refl
  whole_laid (suc n) [] = refl
  whole_laid (suc n) (r ∷ slots) = ap (λ ps. place_of r ∷ ps) (whole_laid n slots)

module _ {L M : Type 0} (see : ℕ → L → M) where
  pub length-seen : (k : ℕ) (ps : List (Place L)) → length (seen see k ps) ≡ length ps
  length-seen k [] = refl
  length-seen k (p ∷ ps) = ap suc (length-seen (k + 1) ps)

  pub seen-append : (k : ℕ) (ps qs : List (Place L)) → seen see k (ps ++ qs) ≡ seen see k ps ++ seen see (k + length ps) qs
  seen-append k [] qs = ap (λ n. seen see n qs) (omega arith)
  seen-append k (p ∷ ps) qs =
      let here : k + 1 + length ps ≡ k + suc (length ps) = omega arith in
      ap (λ rest. record { parent = p.parent; label = see k p.label; below = p.below } ∷ rest)
      (seen-append (k + 1) ps qs ∙ ap (λ n. seen see (k + 1) ps ++ seen see n qs) here)

  pub seen-closed : (k n : ℕ) (ps : List (Place L)) → seen see k (closed n ps) ≡ closed n (seen see k ps)
  seen-closed k n [] = refl
  seen-closed k zero (p ∷ ps) =
      ap (λ m. record { parent = p.parent; label = see k p.label; below = m } ∷ seen see (k + 1) ps) (sym (length-seen (k + 1) ps))
  seen-closed k (suc n) (p ∷ ps) =
      ap (λ rest. record { parent = p.parent; label = see k p.label; below = p.below } ∷ rest) (seen-closed (k + 1) n ps)

  take_seen : (n k : ℕ) (ps : List (Place L)) → take n (seen see k ps) ≡ seen see k (take n ps)
  take_seen zero k ps = refl
  take_seen (suc n) k [] = refl
  take_seen (suc n) k (p ∷ ps) =
      ap (λ rest. record { parent = p.parent; label = see k p.label; below = p.below } ∷ rest) (take_seen n (k + 1) ps)

  drop_seen : (n k : ℕ) (ps : List (Place L)) → drop n (seen see k ps) ≡ seen see (k + length (take n ps)) (drop n ps)
  drop_seen zero k ps = ap (λ m. seen see m ps) (omega arith)
  drop_seen (suc n) k [] = refl
  drop_seen (suc n) k (p ∷ ps) =
      let here : k + 1 + length (take n ps) ≡ k + suc (length (take n ps)) = omega arith in
      drop_seen n (k + 1) ps ∙ ap (λ m. seen see m (drop n ps)) here

  -- ---- a table that grows by a node and all below it

  -- The slots before, with the node just opened, with all below it, and once it is closed.
  pub grown : (old mid full new : List (Slot L)) (p : Option ℕ) (l : L) (n : ℕ) (below : Forest M)
      → laid mid ≡ laid old ++ opened p l ∷ [] → n ≡ length old
      → seen see 0 (laid full) ≡ seen see 0 (laid mid) ++ places (Some n) (length mid) below
      → laid new ≡ closed n (laid full)
      → seen see 0 (laid new) ≡ seen see 0 (laid old) ++ (record { parent = p; label = see (length old) l; below = size below } ∷ places (Some n) (n + 1) below)
  grown old mid full new p l n below mid_is n_is full_is new_is =
      let count : length mid ≡ n + 1 = sym (length-laid mid) ∙ (ap length mid_is ∙ (length-append (laid old) (opened p l ∷ []) ∙ omega (arith, n_is, length-laid old))) in
      let from_start : 0 + length (laid old) ≡ length old = omega (arith, length-laid old) in
      let first : seen see 0 (laid mid) ≡ seen see 0 (laid old) ++ opened p (see (length old) l) ∷ [] =
      ap (seen see 0) mid_is ∙ (seen-append 0 (laid old) (opened p l ∷ [])
      ∙ ap (λ k. seen see 0 (laid old) ++ opened p (see k l) ∷ []) from_start) in
      let inner = places (Some n) (n + 1) below in
      let whole : seen see 0 (laid full) ≡ seen see 0 (laid old) ++ (opened p (see (length old) l) ∷ inner) =
      full_is ∙ (ap₂ (λ a k. a ++ places (Some n) k below) first count
      ∙ append_assoc (seen see 0 (laid old)) (opened p (see (length old) l) ∷ []) inner) in
      let at : n ≡ length (seen see 0 (laid old)) = n_is ∙ sym (length-seen 0 (laid old) ∙ length-laid old) in
      ap (seen see 0) new_is ∙ (seen-closed 0 n (laid full) ∙ (ap (closed n) whole
      ∙ (closed_at (seen see 0 (laid old)) inner (opened p (see (length old) l)) n at
      ∙ ap (λ m. seen see 0 (laid old) ++ (record { parent = p; label = see (length old) l; below = m } ∷ inner)) (length-places (Some n) (n + 1) below))))

  -- ---- the forest that they are

  cons_inj : {X : Type 0} (x y : X) (xs ys : List X) → x ∷ xs ≡ y ∷ ys → (x ≡ y) × (xs ≡ ys)
  cons_inj x y xs ys e = (cc, cc)

  abbrev pub Parts : ℕ → Option ℕ → Slot L → List (Slot L) → M → Forest M → Forest M → Type 0
  Parts k p r slots l below after = (seen see (k + 1) (laid (take r.below slots)) ≡ places (Some k) (k + 1) below)
      × (seen see (k + suc (size below)) (laid (drop r.below slots)) ≡ places p (k + suc (size below)) after)
      × (r.below ≤ length slots) × (see k r.label ≡ l) × (r.below ≡ size below) × (r.parent ≡ p)

  pub parts_of : (l : M) (below after : Forest M) (p : Option ℕ) (k : ℕ) (r : Slot L) (slots : List (Slot L))
      → seen see k (laid (r ∷ slots)) ≡ places p k (node l below after) → Parts k p r slots l below after
  parts_of l below after p k r slots e =
      let inner = places (Some k) (k + 1) below in
      let behind = places p (k + suc (size below)) after in
      let parts = cons_inj (record { parent = r.parent; label = see k r.label; below = r.below }) (record { parent = p; label = l; below = size below }) (seen see (k + 1) (laid slots)) (inner ++ behind) e in
      let below_is : r.below ≡ size below = ap (λ x. x.below) parts.0 in
      let inner_is : r.below ≡ length inner = below_is ∙ sym (length-places (Some k) (k + 1) below) in
      let count : length slots ≡ length inner + length behind = sym (length-seen (k + 1) (laid slots) ∙ length-laid slots) ∙ (ap length parts.1 ∙ length-append inner behind) in
      let taken : length (take r.below (laid slots)) ≡ size below = length-take r.below (laid slots) ∙ omega (arith, count, inner_is, below_is, length-laid slots) in
      let past : k + 1 + length (take r.below (laid slots)) ≡ k + suc (size below) = omega (arith, taken) in (
        ap (seen see (k + 1)) (laid_take r.below slots) ∙ (sym (take_seen r.below (k + 1) (laid slots)) ∙ (ap (take r.below) parts.1 ∙ take_at inner behind r.below (sym inner_is))),
        ap (seen see (k + suc (size below))) (laid_drop r.below slots) ∙ (ap (λ m. seen see m (drop r.below (laid slots))) (sym past)
            ∙ (sym (drop_seen r.below (k + 1) (laid slots)) ∙ (ap (drop r.below) parts.1 ∙ drop_at inner behind r.below (sym inner_is)))),
        omega (arith, count, inner_is),
        ap (λ x. x.label) parts.0,
        below_is,
        ap (λ x. x.parent) parts.0,
      )

  pub forest_seen : (f : Forest M) (p : Option ℕ) (k : ℕ) (slots : List (Slot L)) → seen see k (laid slots) ≡ places p k f
      → (numbered_by see k (forest_of slots) ≡ f) × (laid slots ≡ places p k (forest_of slots)) × (size (forest_of slots) ≡ size f)
  forest_seen end p k [] e =
      let nothing = no_node {L = L} [] refl in
      (ap (numbered_by see k) nothing, sym (ap (places p k) nothing), ap size nothing)
  forest_seen end p k (r ∷ slots) e = absurd cc
  forest_seen (node l below after) p k [] e = absurd cc
  forest_seen (node l below after) p k (r ∷ slots) e =
      let parts = parts_of l below after p k r slots e in
      let under = take r.below slots in
      let behind = drop r.below slots in
      let inner = forest_seen below (Some k) (k + 1) under parts.0 in
      let rest = forest_seen after p (k + suc (size below)) behind parts.1 in
      let split = forest_of-cons r slots in
      let past : k + suc (size (forest_of under)) ≡ k + suc (size below) = omega (arith, inner.2) in (
        ap (numbered_by see k) split
            ∙ (ap (λ m. node (see k r.label) (numbered_by see (k + 1) (forest_of under)) (numbered_by see m (forest_of behind))) past
            ∙ (ap (λ x. node x (numbered_by see (k + 1) (forest_of under)) (numbered_by see (k + suc (size below)) (forest_of behind))) parts.3
            ∙ ap₂ (node l) inner.0 rest.0)),
        placed parts inner.1 rest.1 past inner.2 ∙ sym (ap (places p k) split),
        ap size split ∙ ap₂ (λ a b. suc (a + b)) inner.2 rest.2,
      )
    where
      placed : Parts k p r slots l below after
          → laid (take r.below slots) ≡ places (Some k) (k + 1) (forest_of (take r.below slots))
          → laid (drop r.below slots) ≡ places p (k + suc (size below)) (forest_of (drop r.below slots))
          → k + suc (size (forest_of (take r.below slots))) ≡ k + suc (size below)
          → size (forest_of (take r.below slots)) ≡ size below
          → laid (r ∷ slots) ≡ places p k (node r.label (forest_of (take r.below slots)) (forest_of (drop r.below slots)))
      placed parts inner rest past sized =
          let under = take r.below slots in
          let behind = drop r.below slots in
          let both : laid slots ≡ places (Some k) (k + 1) (forest_of under) ++ places p (k + suc (size (forest_of under))) (forest_of behind) =
          whole_laid r.below slots ∙ ap₂ (λ a b. a ++ b) inner (rest ∙ ap (λ m. places p m (forest_of behind)) (sym past)) in
          ap₂ (λ q b. record { parent = q; label = r.label; below = b } ∷ laid slots) parts.5 (parts.4 ∙ sym sized)
          ∙ ap (λ rest. record { parent = p; label = r.label; below = size (forest_of under) } ∷ rest) both

  -- slots that show a forest are that forest, with other labels, and are laid out
  pub shown : (f : Forest M) (slots : List (Slot L)) → Shows see slots f → (numbered_by see 0 (forest_of slots) ≡ f) × IsLaidOut slots
  shown f slots e = let whole = forest_seen f None 0 slots e in (whole.0, whole.1)
