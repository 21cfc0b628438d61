-- What stands below the statement of a number, from the rows of its table.
use Rattle.std.proofs.Common.{◌≡◌, ℕ, zero, suc, ◌+◌, ◌-◌, ◌<◌, ◌≤◌, Bool, true, false, List, [], ◌∷◌, ◌++◌, length, take, drop, map, Option, Some, None, refl, sym, ap, ap₂, ◌∙◌, arith, subst, ltb}
use Rattle.std.specs.Prelude.{slice_get, option_map}
use Rattle.std.specs.Option.{option_map_or}
use Rattle.std.proofs.lemmas.Bool.{ltb-true, ltb-false}
use Rattle.std.proofs.lemmas.List.{length-append, length-drop, length-take, map-append}
use Rattle.std.proofs.lemmas.Option.{slice_get-map}
use Rattle.yspec.specs.Forest.{Forest, end, node, size, preorder}
use Rattle.yspec.specs.linking.Source.{Source}
use Rattle.yspec.specs.linking.Scopes.{Placed, placed, statements_of, statement_at}
use Rattle.ybase_preorder.specs.declared.slot.Slot.{Slot}
use Rattle.ybase_preorder.specs.Layout.{places, laid, seen, numbered_by, forest_of, IsLaidOut}
use Rattle.ybase_preorder.proofs.LabelLemmas.{preorder_by, label_at, size-by}
use Rattle.ybase_preorder.proofs.LayoutLemmas.{parts_of, forest_seen, length-places, seen-append}
use Rattle.ylink_grammar.specs.declared.source.Source as held
use Rattle.ylink_grammar.specs.SourceView.{source_view}
use Rattle.ylink_names.proofs.PlacedLemmas.{found_at}

-- ---- a statement itself

sources_placed : (ancestors : List (Source × Forest Source)) (f : Forest Source) → map (λ (p : Placed). p.source) (placed ancestors f) ≡ preorder f
unfolding placed
sources_placed ancestors end = refl
sources_placed ancestors (node s below after) =
    let under = placed ((s, below) ∷ ancestors) below in
    let behind = placed ancestors after in
    ap (λ l. s ∷ l) (map-append (λ (p : Placed). p.source) under behind
    ∙ ap₂ (λ a b. a ++ b) (sources_placed ((s, below) ∷ ancestors) below) (sources_placed ancestors after))

pub source_at : (rows : List (Slot held.Source)) (n : ℕ)
    → option_map (λ (r : Slot held.Source). source_view n r.label) (slice_get rows n)
    ≡ option_map (λ (p : Placed). p.source) (statement_at (numbered_by source_view 0 (forest_of rows)) n)
source_at rows n =
    let modules = numbered_by source_view 0 (forest_of rows) in
    let source : Placed → Source = λ p. p.source in
    let number : 0 + n ≡ n = omega arith in
    sym (ap (option_map source) (found_at (forest_of rows) n)
    ∙ (sym (slice_get-map source (statements_of modules) n)
    ∙ (ap (λ l. slice_get l n) (sources_placed [] modules ∙ preorder_by source_view rows)
    ∙ (label_at source_view 0 rows n ∙ ap (λ m. option_map (λ (r : Slot held.Source). source_view m r.label) (slice_get rows n)) number))))

-- ---- what stands below it

abbrev pub belows : {M : Type 0} → Forest M → List (Forest M)
belows end = []
belows (node l below after) = below ∷ (belows below ++ belows after)

length_belows : {M : Type 0} (f : Forest M) → length (belows f) ≡ size f
length_belows end = refl
length_belows (node l below after) = ap suc (length-append (belows below) (belows after) ∙ ap₂ (λ a b. a + b) (length_belows below) (length_belows after))

belows_placed : (ancestors : List (Source × Forest Source)) (f : Forest Source) → map (λ (p : Placed). p.below) (placed ancestors f) ≡ belows f
unfolding placed
belows_placed ancestors end = refl
belows_placed ancestors (node s below after) =
    let under = placed ((s, below) ∷ ancestors) below in
    let behind = placed ancestors after in
    ap (λ l. below ∷ l) (map-append (λ (p : Placed). p.below) under behind
    ∙ ap₂ (λ a b. a ++ b) (belows_placed ((s, below) ∷ ancestors) below) (belows_placed ancestors after))

module _ {A : Type 0} where
  get_take : (n j : ℕ) (xs : List A) → j < n → slice_get (take n xs) j ≡ slice_get xs j
  get_take zero j xs h = absurd (omega arith)
  get_take (suc n) j [] h = refl
  get_take (suc n) zero (x ∷ xs) h = refl
  get_take (suc n) (suc j) (x ∷ xs) h = get_take n j xs (omega arith)

  get_drop : (n j : ℕ) (xs : List A) → slice_get (drop n xs) j ≡ slice_get xs (n + j)
  get_drop zero j xs = let same : j ≡ 0 + j = omega arith in ap (slice_get xs) same
  get_drop (suc n) j [] = let same : suc (n + j) ≡ suc n + j = omega arith in ap (slice_get []) same
  get_drop (suc n) j (x ∷ xs) = let same : suc (n + j) ≡ suc n + j = omega arith in get_drop n j xs ∙ ap (slice_get (x ∷ xs)) same

  get_first : (j : ℕ) (xs ys : List A) → j < length xs → slice_get (xs ++ ys) j ≡ slice_get xs j
  get_first j [] ys h = absurd (omega arith)
  get_first zero (x ∷ xs) ys h = refl
  get_first (suc j) (x ∷ xs) ys h = get_first j xs ys (omega arith)

  get_second : (j n : ℕ) (xs ys : List A) → length xs ≡ n → slice_get (xs ++ ys) (n + j) ≡ slice_get ys j
  get_second j zero [] ys h = let same : 0 + j ≡ j = omega arith in ap (slice_get ys) same
  get_second j zero (x ∷ xs) ys h = absurd (omega arith)
  get_second j (suc n) [] ys h = absurd (omega arith)
  get_second j (suc n) (x ∷ xs) ys h = let same : suc n + j ≡ suc (n + j) = omega arith in ap (slice_get (x ∷ (xs ++ ys))) same ∙ get_second j n xs ys (omega arith)

  drop_drop : (n m : ℕ) (xs : List A) → drop m (drop n xs) ≡ drop (n + m) xs
  drop_drop zero m xs = let same : m ≡ 0 + m = omega arith in ap (λ k. drop k xs) same
  drop_drop (suc n) zero [] = let same : suc n ≡ suc n + 0 = omega arith in ap (λ k. drop k []) same
  drop_drop (suc n) (suc m) [] = let same : suc (n + suc m) ≡ suc n + suc m = omega arith in ap (λ k. drop k []) same
  drop_drop (suc n) m (x ∷ xs) = let same : suc (n + m) ≡ suc n + m = omega arith in drop_drop n m xs ∙ ap (λ k. drop k (x ∷ xs)) same

  take_drop_inside : (b j n : ℕ) (xs : List A) → j + b ≤ n → take b (drop j (take n xs)) ≡ take b (drop j xs)
  take_drop_inside zero j n xs h = refl
  take_drop_inside (suc b) zero zero xs h = absurd (omega arith)
  take_drop_inside (suc b) zero (suc n) [] h = refl
  take_drop_inside (suc b) zero (suc n) (x ∷ xs) h = ap (λ l. x ∷ l) (take_drop_inside b zero n xs (omega arith))
  take_drop_inside (suc b) (suc j) zero xs h = absurd (omega arith)
  take_drop_inside (suc b) (suc j) (suc n) [] h = refl
  take_drop_inside (suc b) (suc j) (suc n) (x ∷ xs) h = take_drop_inside (suc b) j n xs (omega arith)

module _ {L M : Type 0} (see : ℕ → L → M) where
  seen-places : (p : Option ℕ) (k : ℕ) (f : Forest L) → seen see k (places p k f) ≡ places p k (numbered_by see k f)
  seen-places p k end = refl
  seen-places p k (node l below after) =
      let inner = places (Some k) (k + 1) below in
      let count : k + 1 + length inner ≡ k + suc (size below) = omega (arith, length-places (Some k) (k + 1) below) in
      ap₂ (λ n rest. record { parent = p; label = see k l; below = n } ∷ rest) (sym (size-by see (k + 1) below))
      (seen-append see (k + 1) inner (places p (k + suc (size below)) after)
      ∙ ap₂ (λ a b. a ++ b) (seen-places (Some k) (k + 1) below)
      (ap (λ n. seen see n (places p (k + suc (size below)) after)) count
      ∙ (seen-places p (k + suc (size below)) after
      ∙ ap (λ n. places p (k + suc n) (numbered_by see (k + suc (size below)) after)) (sym (size-by see (k + 1) below)))))

  -- what stands below the row of a number ends where its own row says
  abbrev pub Below : ℕ → ℕ → Slot L → List (Slot L) → List (Forest M) → Type 0
  Below k i r rows fs = (suc i + r.below ≤ length rows) × (slice_get fs i ≡ Some (numbered_by see (k + suc i) (forest_of (take r.below (drop (suc i) rows)))))

  below_at : (f : Forest M) (p : Option ℕ) (k : ℕ) (rows : List (Slot L)) → seen see k (laid rows) ≡ places p k f
      → (i : ℕ) (r : Slot L) → slice_get rows i ≡ Some r → Below k i r rows (belows f)
  below_at end p k [] e i r at = absurd cc
  below_at end p k (x ∷ rows) e i r at = absurd cc
  below_at (node l below after) p k [] e i r at = absurd cc
  below_at (node l below after) p k (x ∷ rows) e zero r at =
      let parts = parts_of see l below after p k x rows e in
      let same : x ≡ r = cc in
      let inside = forest_seen see below (Some k) (k + 1) (take x.below rows) parts.0 in
      let within = parts.2 in
      subst (λ (y : Slot L). Below k 0 y (x ∷ rows) (below ∷ (belows below ++ belows after))) same (omega (arith, within), ap Some (sym inside.0))
  below_at (node l below after) p k (x ∷ rows) e (suc j) r at =
      let parts = parts_of see l below after p k x rows e in
      let within = parts.2 in
      let sized = parts.4 in
      by (ltb j x.below) refl
      (λ before. below_at below (Some k) (k + 1) (take x.below rows) parts.0 j r (get_take x.below j rows before ∙ at))
      (λ behind.
      let same : x.below + (j - x.below) ≡ j = omega (arith, behind) in
      below_at after p (k + suc (size below)) (drop x.below rows) parts.1 (j - x.below) r
      (get_drop x.below (j - x.below) rows ∙ (ap (slice_get rows) same ∙ at)))
      within sized
    where
      by : (b : Bool) → ltb j x.below ≡ b
          → (j < x.below → Below (k + 1) j r (take x.below rows) (belows below))
          → (x.below ≤ j → Below (k + suc (size below)) (j - x.below) r (drop x.below rows) (belows after))
          → x.below ≤ length rows → x.below ≡ size below
          → Below k (suc j) r (x ∷ rows) (below ∷ (belows below ++ belows after))
      by true is inner outer within sized =
          let before = ltb-true j x.below is in
          let found = inner before in
          let ends = found.0 in
          let count = length_belows below in
          let further : k + 1 + suc j ≡ k + suc (suc j) = omega arith in (
            omega (arith, ends, length-take x.below rows, within),
            get_first j (belows below) (belows after) (omega (arith, count, sized, before))
                ∙ (found.1 ∙ ap₂ (λ n rs. Some (numbered_by see n (forest_of rs))) further
                (take_drop_inside r.below (suc j) x.below rows (omega (arith, ends, length-take x.below rows, within)))),
          )
      by false is inner outer within sized =
          let behind = ltb-false j x.below is in
          let found = outer behind in
          let ends = found.0 in
          let count : length (belows below) ≡ x.below = length_belows below ∙ sym sized in
          let same : x.below + (j - x.below) ≡ j = omega (arith, behind) in
          let next : x.below + suc (j - x.below) ≡ suc j = omega (arith, behind) in
          let further : k + suc (size below) + suc (j - x.below) ≡ k + suc (suc j) = omega (arith, behind, sized) in (
            omega (arith, ends, length-drop x.below rows, behind),
            ap (slice_get (belows below ++ belows after)) (sym same)
                ∙ (get_second (j - x.below) x.below (belows below) (belows after) count
                ∙ (found.1 ∙ ap₂ (λ n rs. Some (numbered_by see n (forest_of (take r.below rs)))) further
                (drop_drop x.below (suc (j - x.below)) rows ∙ ap (λ n. drop n rows) next))),
          )

pub row_below : (rows : List (Slot held.Source)) (n : ℕ) (r : Slot held.Source) → IsLaidOut rows → slice_get rows n ≡ Some r
    → option_map (λ (p : Placed). p.below) (statement_at (numbered_by source_view 0 (forest_of rows)) n)
    ≡ Some (numbered_by source_view (n + 1) (forest_of (take r.below (drop (n + 1) rows))))
row_below rows n r laid_out at =
    let f = forest_of rows in
    let modules = numbered_by source_view 0 f in
    let below : Placed → Forest Source = λ p. p.below in
    let found = below_at source_view modules None 0 rows (ap (seen source_view 0) laid_out ∙ seen-places source_view None 0 f) n r at in
    let number : 0 + suc n ≡ n + 1 = omega arith in
    let next : suc n ≡ n + 1 = omega arith in
    ap (option_map below) (found_at f n)
    ∙ (sym (slice_get-map below (statements_of modules) n)
    ∙ (ap (λ l. slice_get l n) (belows_placed [] modules)
    ∙ (found.1 ∙ ap₂ (λ m k. Some (numbered_by source_view m (forest_of (take r.below (drop k rows))))) number next)))

pub below_found : (rows : List (Slot held.Source)) (n : ℕ) (b : Forest Source) → IsLaidOut rows
    → ((r : Slot held.Source) → slice_get rows n ≡ Some r → b ≡ numbered_by source_view (n + 1) (forest_of (take r.below (drop (n + 1) rows))))
    → (slice_get rows n ≡ None → b ≡ end)
    → b ≡ option_map_or (λ (p : Placed). p.below) (statement_at (numbered_by source_view 0 (forest_of rows)) n) end
below_found rows n b laid_out some none = by (slice_get rows n) refl
  where
    there : (o : Option Placed) (x : Forest Source) → option_map (λ (p : Placed). p.below) o ≡ Some x → x ≡ option_map_or (λ (p : Placed). p.below) o end
    there None x e = absurd cc
    there (Some p) x e = let same : p.below ≡ x = cc in sym same

    nowhere : (o : Option Placed) → None ≡ option_map (λ (p : Placed). p.source) o → end ≡ option_map_or (λ (p : Placed). p.below) o end
    nowhere None e = refl
    nowhere (Some p) e = absurd cc

    by : (o : Option (Slot held.Source)) → slice_get rows n ≡ o → b ≡ option_map_or (λ (p : Placed). p.below) (statement_at (numbered_by source_view 0 (forest_of rows)) n) end
    by (Some r) at = some r at ∙ there (statement_at (numbered_by source_view 0 (forest_of rows)) n) _ (row_below rows n r laid_out at)
    by None at = none at ∙ nowhere (statement_at (numbered_by source_view 0 (forest_of rows)) n)
        (ap (option_map (λ (r : Slot held.Source). source_view n r.label)) (sym at) ∙ source_at rows n)
