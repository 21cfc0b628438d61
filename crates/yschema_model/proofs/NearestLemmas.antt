-- The data node above each node, as a pass over the slots works it out from the nodes before.
use Rattle.std.proofs.Common.{◌≡◌, ℕ, zero, suc, ◌+◌, ◌<◌, ◌≤◌, map, List, [], ◌∷◌, ◌++◌, length, Option, Some, None, refl, sym, ap, ap₂, ◌∙◌, append_assoc, subst, arith, length-append}
use Rattle.std.specs.Prelude.{option_and_then, slice_get}
use Rattle.std.proofs.lemmas.List.{length-map}
use Rattle.yspec.specs.Forest.{Forest, node, end, size}
use Rattle.yspec.specs.schema.Schema.{SchemaNode}
use Rattle.yspec.specs.document.Fitting.{IsNumbered}
use Rattle.yschema_model.specs.declared.children.Slot.{Slot}
use Rattle.yschema_model.specs.Layout.{Place, places, laid, forest_of, data_at, data_above, data_places, IsLaidOut}
use Rattle.yschema_model.proofs.ChildLemmas.{numbered_laid}

-- the data node that the node of each place is, or that stands above it
abbrev pub nearest_of : List Place → List (Option ℕ)
nearest_of = map (λ p. data_at p.parent p.label)

-- a place that follows others, with the data node above it as its parent
abbrev pub handed_on : List Place → Place → Place
handed_on done p = record { parent = data_above (nearest_of done) p.parent; label = p.label; below = p.below }

-- so the places that follow some
unfoldable pub handed : List Place → List Place → List Place
handed done [] = done
handed done (p ∷ ps) = handed (done ++ handed_on done p ∷ []) ps

pub handed-append : (done ps qs : List Place) → handed done (ps ++ qs) ≡ handed (handed done ps) qs
unfolding handed
handed-append done [] qs = refl
handed-append done (p ∷ ps) qs = handed-append (done ++ handed_on done p ∷ []) ps qs

pub handed-last : (done ps : List Place) (p : Place) → handed done (ps ++ p ∷ []) ≡ handed done ps ++ handed_on (handed done ps) p ∷ []
unfolding handed
handed-last done ps p = handed-append done ps (p ∷ [])

-- a parent that stands before the place of a number
abbrev IsBefore : ℕ → Option ℕ → Type 0
IsBefore k None = Unit {0}
IsBefore k (Some j) = j < k

before_more : (k m : ℕ) (p : Option ℕ) → k ≤ m → IsBefore k p → IsBefore m p
before_more k m None h before = tt
before_more k m (Some j) h before = omega arith

get-append : {X : Type 0} (xs ys : List X) (j : ℕ) → j < length xs → slice_get (xs ++ ys) j ≡ slice_get xs j
get-append [] ys j h = absurd (omega arith)
get-append (x ∷ xs) ys zero h = refl
get-append (x ∷ xs) ys (suc j) h = get-append xs ys j (omega arith)

get-last : {X : Type 0} (xs ys : List X) (x : X) → slice_get (xs ++ x ∷ ys) (length xs) ≡ Some x
get-last [] ys x = refl
get-last (z ∷ xs) ys x = get-last xs ys x

pub map-append : {X Y : Type 0} (f : X → Y) (xs ys : List X) → map f (xs ++ ys) ≡ map f xs ++ map f ys
map-append f [] ys = refl
map-append f (x ∷ xs) ys = ap (λ zs. f x ∷ zs) (map-append f xs ys)

-- what stands above a node isn't changed by what comes later
above_kept : (done more : List Place) (p : Option ℕ) → IsBefore (length done) p → data_above (nearest_of (done ++ more)) p ≡ data_above (nearest_of done) p
above_kept done more None before = refl
above_kept done more (Some j) before =
    ap (λ xs. option_and_then (λ above. above) (slice_get xs j)) (map-append (λ p. data_at p.parent p.label) done more)
    ∙ ap (option_and_then (λ above. above)) (get-append (nearest_of done) (nearest_of more) j (omega (arith, before, length-map done (λ (p : Place). data_at p.parent p.label))))

above_last : (done : List Place) (x : Place) (number : ℕ) → number ≡ length done → data_above (nearest_of (done ++ x ∷ [])) (Some number) ≡ data_at x.parent x.label
above_last done x number is =
    ap₂ (λ xs j. option_and_then (λ above. above) (slice_get xs j)) (map-append (λ p. data_at p.parent p.label) done (x ∷ []))
    (is ∙ sym (length-map done (λ (p : Place). data_at p.parent p.label)))
    ∙ ap (option_and_then (λ above. above)) (get-last (nearest_of done) [] (data_at x.parent x.label))

pub length-data_places : (p : Option ℕ) (f : Forest SchemaNode) → length (data_places p f) ≡ size f
length-data_places p end = refl
length-data_places p (node l below after) = ap suc (length-append (data_places (data_at p l) below) (data_places p after)
    ∙ ap₂ (λ a b. a + b) (length-data_places (data_at p l) below) (length-data_places p after))

pub handed_places : (f : Forest SchemaNode) (p : Option ℕ) (done : List Place) → IsNumbered (length done) f → IsBefore (length done) p
    → handed done (places p f) ≡ done ++ data_places (data_above (nearest_of done) p) f
unfolding handed
handed_places end p done numbered before = sym (nothing_more done)
  where
    nothing_more : (xs : List Place) → xs ++ [] ≡ xs
    nothing_more [] = refl
    nothing_more (x ∷ xs) = ap (λ ys. x ∷ ys) (nothing_more xs)
handed_places (node l below after) p done numbered before =
    let above = data_above (nearest_of done) p in
    let x : Place = record { parent = above; label = l; below = size below } in
    let first = done ++ x ∷ [] in
    let inner = data_places (data_at above l) below in
    let one_more : length first ≡ length done + 1 = length-append done (x ∷ []) in
    let all : length (first ++ inner) ≡ length done + 1 + size below = length-append first inner ∙ ap₂ (λ a b. a + b) one_more (length-data_places (data_at above l) below) in
    let below_is : handed first (places (Some l.number) below) ≡ first ++ inner =
    handed_places below (Some l.number) first (numbered_at below (length done + 1) (length first) one_more numbered.1) (omega (arith, one_more, numbered.0))
    ∙ ap (λ q. first ++ data_places q below) (above_last done x l.number numbered.0) in
    let kept : data_above (nearest_of (first ++ inner)) p ≡ above =
    above_kept first inner p (before_more (length done) (length first) p (omega (arith, one_more)) before) ∙ above_kept done (x ∷ []) p before in
    handed-append first (places (Some l.number) below) (places p after)
    ∙ (ap (λ xs. handed xs (places p after)) below_is
    ∙ (handed_places after p (first ++ inner) (numbered_at after (length done + 1 + size below) (length (first ++ inner)) all numbered.2)
    (before_more (length done) (length (first ++ inner)) p (omega (arith, all)) before)
    ∙ (ap (λ q. (first ++ inner) ++ data_places q after) kept
    ∙ (append_assoc first inner (data_places above after) ∙ append_assoc done (x ∷ []) (inner ++ data_places above after)))))
  where
    numbered_at : (f : Forest SchemaNode) (k m : ℕ) → m ≡ k → IsNumbered k f → IsNumbered m f
    numbered_at f k m is numbered = subst (λ n. IsNumbered n f) (sym is) numbered

-- all slots that are laid out
pub handed_laid : (slots : List Slot) → IsLaidOut slots → handed [] (laid 0 slots) ≡ data_places None (forest_of 0 slots)
handed_laid slots laid_out =
    ap (handed []) laid_out ∙ handed_places (forest_of 0 slots) None [] (numbered_laid (forest_of 0 slots) None 0 slots laid_out) tt
