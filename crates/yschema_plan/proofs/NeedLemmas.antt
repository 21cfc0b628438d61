-- Nodes that tell those above them that they must be stored, the last first.
use Rattle.std.proofs.Common.{◌≡◌, ◌≢◌, ℕ, zero, suc, ◌+◌, ◌-◌, ◌<◌, ◌≤◌, Bool, true, false, cond, ◌&&◌, ◌||◌, List, [], ◌∷◌, ◌++◌, length, drop, get_or, replicate, map, Option, Some, None, refl, sym, ap, ap₂, ◌∙◌, subst, arith, append_assoc, length-append, inl, inr}
use Rattle.std.specs.Prelude.{◌==◌, option_map, slice_get, slice_set, unwrap_or}
use Rattle.std.proofs.lemmas.Bool.{cases_lt, eq-eqb, ne_eqb}
use Rattle.std.proofs.lemmas.List.{append-nil, map-append}
use Rattle.std.proofs.lemmas.Option.{slice_get-get_or, slice_get-map, slice_get_past}
use Rattle.std.proofs.Math.Seq.{drop-cons}
use Rattle.yspec.specs.Forest.{Forest, node, end, size, find_below, joined_below}
use Rattle.yspec.specs.linking.Planned.{Planned}
use Rattle.yspec.specs.linking.NodeBreaks.{must_be, has_mandatory}
use Rattle.ybase_preorder.specs.Layout.{Place, places, forest_of, laid, numbered_by, seen, IsLaidOut, Shows}
use Rattle.ybase_preorder.specs.declared.slot.Slot.{Slot}
use Rattle.ybase_preorder.proofs.LayoutLemmas.{length-laid, length-places, length-seen, seen-append}
use Rattle.ybase_preorder.proofs.LabelLemmas.{size-by}
use Rattle.yschema_plan.specs.Needs.{all_stand, must_stand, has_mandatory_by, needs_below, is_told, told_above, one_told, told_by}
use Rattle.yschema_plan.specs.PlannedView.{planned_view, planned_place}
use Rattle.yschema_plan.specs.declared.planned.Planned as code

-- ---- what is told is set

set_front : (xs ys : List Bool) (n : ℕ) → n < length xs → slice_set (xs ++ ys) n true ≡ slice_set xs n true ++ ys
set_front [] ys n within = absurd (omega arith)
set_front (x ∷ xs) ys zero within = refl
set_front (x ∷ xs) ys (suc n) within = ap (λ rest. x ∷ rest) (set_front xs ys n (omega arith))

set_twice : (xs : List Bool) (n : ℕ) → slice_set (slice_set xs n true) n true ≡ slice_set xs n true
set_twice [] n = refl
set_twice (x ∷ xs) zero = refl
set_twice (x ∷ xs) (suc n) = ap (λ rest. x ∷ rest) (set_twice xs n)

set_last : (xs : List Bool) (b : Bool) → slice_set (xs ++ b ∷ []) (length xs) true ≡ xs ++ true ∷ []
set_last [] b = refl
set_last (x ∷ xs) b = ap (λ rest. x ∷ rest) (set_last xs b)

length_set : (xs : List Bool) (n : ℕ) → length (slice_set xs n true) ≡ length xs
length_set [] n = refl
length_set (x ∷ xs) zero = refl
length_set (x ∷ xs) (suc n) = ap suc (length_set xs n)

get_seam : (xs ys : List Bool) (b : Bool) → slice_get (xs ++ b ∷ ys) (length xs) ≡ Some b
get_seam [] ys b = refl
get_seam (x ∷ xs) ys b = get_seam xs ys b

-- what stands above nodes from a number on has a lesser one
IsAbove : Option ℕ → ℕ → Type 0
IsAbove None k = Unit {0}
IsAbove (Some n) k = n < k

above_front : (parent : Option ℕ) (b : Bool) (xs ys : List Bool) → IsAbove parent (length xs)
    → told_above parent b (xs ++ ys) ≡ told_above parent b xs ++ ys
unfolding IsAbove
above_front None b xs ys within = refl
above_front (Some n) true xs ys within = set_front xs ys n within
above_front (Some n) false xs ys within = refl

above_twice : (parent : Option ℕ) (a b : Bool) (xs : List Bool) → told_above parent a (told_above parent b xs) ≡ told_above parent (a || b) xs
above_twice None a b xs = refl
above_twice (Some n) true true xs = set_twice xs n
above_twice (Some n) true false xs = refl
above_twice (Some n) false b xs = refl

pub above_none : (parent : Option ℕ) (xs : List Bool) → told_above parent false xs ≡ xs
above_none None xs = refl
above_none (Some n) xs = refl

length_above : (parent : Option ℕ) (b : Bool) (xs : List Bool) → length (told_above parent b xs) ≡ length xs
length_above None b xs = refl
length_above (Some n) true xs = length_set xs n
length_above (Some n) false xs = refl

above_last : (xs : List Bool) (k : ℕ) (b : Bool) → length xs ≡ k → told_above (Some k) b (xs ++ false ∷ []) ≡ xs ++ b ∷ []
above_last xs k true count = ap (λ n. slice_set (xs ++ false ∷ []) n true) (sym count) ∙ set_last xs false
above_last xs k false count = refl

told_seam : (xs ys : List Bool) (b : Bool) (k : ℕ) → length xs ≡ k → is_told (xs ++ b ∷ ys) k ≡ b
told_seam xs ys b k count =
    ap (is_told (xs ++ b ∷ ys)) (sym count) ∙ ap (λ o. unwrap_or o false) (get_seam xs ys b)

-- ---- what the nodes of a forest tell

by-append : (stands : Planned → Bool) (k : ℕ) (ps qs : List (Place Planned)) (told : List Bool)
    → told_by stands k (ps ++ qs) told ≡ told_by stands k ps (told_by stands (k + length ps) qs told)
by-append stands k [] qs told = ap (λ n. told_by stands n qs told) (omega arith)
by-append stands k (p ∷ ps) qs told =
    let here : k + 1 + length ps ≡ k + suc (length ps) = omega arith in
    ap (one_told stands k p) (by-append stands (k + 1) ps qs told ∙ ap (λ n. told_by stands (k + 1) ps (told_by stands n qs told)) here)

none-sum : (m n : ℕ) (xs : List Bool) → replicate (m + n) false ++ xs ≡ replicate m false ++ (replicate n false ++ xs)
none-sum zero n xs = ap (λ k. replicate k false ++ xs) (omega arith)
none-sum (suc m) n xs =
    let next : suc m + n ≡ suc (m + n) = omega arith in
    ap (λ k. replicate k false ++ xs) next ∙ ap (λ rest. false ∷ rest) (none-sum m n xs)

-- the node of a number, once those behind it have told
one_last : (stands : Planned → Bool) (parent : Option ℕ) (l : Planned) (k count : ℕ) (b a : Bool) (before behind : List Bool) → length before ≡ k → IsAbove parent k
    → one_told stands k (record { parent = parent; label = l; below = count }) (told_above parent a before ++ (b ∷ behind))
    ≡ told_above parent (must_stand stands l b || a) before ++ (b ∷ behind)
one_last stands parent l k count b a before behind long above =
    let now = told_above parent a before in
    let as_long : length now ≡ k = length_above parent a before ∙ long in
    ap (λ m. told_above parent (must_stand stands l m) (now ++ (b ∷ behind))) (told_seam now behind b k as_long)
    ∙ (above_front parent (must_stand stands l b) now (b ∷ behind) (subst (IsAbove parent) (sym as_long) above)
    ∙ ap (λ xs. xs ++ (b ∷ behind)) (above_twice parent (must_stand stands l b) a before))

-- the nodes behind one and below it
others_told : (stands : Planned → Bool) (parent : Option ℕ) (k : ℕ) (b a : Bool) (before inner_none inner rest : List Bool) (below : List (Place Planned))
    → length before ≡ k
    → told_by stands (k + 1) below ((told_above parent a before ++ false ∷ []) ++ (inner_none ++ rest))
    ≡ told_above (Some k) b (told_above parent a before ++ false ∷ []) ++ (inner ++ rest)
    → told_by stands (k + 1) below (told_above parent a before ++ (false ∷ (inner_none ++ rest))) ≡ told_above parent a before ++ (b ∷ (inner ++ rest))
others_told stands parent k b a before inner_none inner rest below long is =
    let now = told_above parent a before in
    ap (told_by stands (k + 1) below) (sym (append_assoc now (false ∷ []) (inner_none ++ rest)))
    ∙ (is ∙ (ap (λ xs. xs ++ (inner ++ rest)) (above_last now k b (length_above parent a before ∙ long))
    ∙ append_assoc now (b ∷ []) (inner ++ rest)))

told_all : (stands : Planned → Bool) (f : Forest Planned) (parent : Option ℕ) (k : ℕ) (before behind : List Bool) → length before ≡ k → IsAbove parent k
    → told_by stands k (places parent k f) (before ++ (replicate (size f) false ++ behind))
    ≡ told_above parent (has_mandatory_by stands f) before ++ (needs_below stands f ++ behind)
unfolding IsAbove
told_all stands end parent k before behind long above = ap (λ xs. xs ++ behind) (sym (above_none parent before))
told_all stands (node l below after) parent k before behind long above =
    let a = has_mandatory_by stands after in
    let b = has_mandatory_by stands below in
    let next = k + suc (size below) in
    let none = replicate (size below) false in
    let rest = needs_below stands after ++ behind in
    let first = before ++ (false ∷ none) in
    let first_long : length first ≡ next = length-append before (false ∷ none) ∙ omega (arith, long, length_none (size below)) in
    let inner = places (Some k) (k + 1) below in
    let others = places parent next after in
    let past : k + 1 + length inner ≡ next = omega (arith, length-places (Some k) (k + 1) below) in
    let start : before ++ (replicate (size (node l below after)) false ++ behind) ≡ first ++ (replicate (size after) false ++ behind) =
    ap (λ xs. before ++ (false ∷ xs)) (none-sum (size below) (size after) behind) ∙ sym (append_assoc before (false ∷ none) (replicate (size after) false ++ behind)) in
    let behind_told : told_by stands next others (first ++ (replicate (size after) false ++ behind)) ≡ told_above parent a before ++ (false ∷ (none ++ rest)) =
    told_all stands after parent next first behind first_long (higher parent k next above (omega arith))
    ∙ (ap (λ xs. xs ++ rest) (above_front parent a before (false ∷ none) (subst (IsAbove parent) (sym long) above))
    ∙ append_assoc (told_above parent a before) (false ∷ none) rest) in
    let seam_long : length (told_above parent a before ++ false ∷ []) ≡ k + 1 =
    length-append (told_above parent a before) (false ∷ []) ∙ omega (arith, long, length_above parent a before) in
    let under : told_by stands (k + 1) inner (told_above parent a before ++ (false ∷ (none ++ rest))) ≡ told_above parent a before ++ (b ∷ (needs_below stands below ++ rest)) =
    others_told stands parent k b a before none (needs_below stands below) rest inner long
    (told_all stands below (Some k) (k + 1) (told_above parent a before ++ false ∷ []) rest seam_long (omega arith)) in
    ap (λ told. one_told stands k (record { parent = parent; label = l; below = size below }) (told_by stands (k + 1) (inner ++ others) told)) start
    ∙ (ap (one_told stands k (record { parent = parent; label = l; below = size below }))
    (by-append stands (k + 1) inner others (first ++ (replicate (size after) false ++ behind))
    ∙ (ap (λ n. told_by stands (k + 1) inner (told_by stands n others (first ++ (replicate (size after) false ++ behind)))) past
    ∙ (ap (told_by stands (k + 1) inner) behind_told ∙ under)))
    ∙ (one_last stands parent l k (size below) b a before (needs_below stands below ++ rest) long above
    ∙ ap (λ xs. told_above parent (must_stand stands l b || a) before ++ (b ∷ xs)) (sym (append_assoc (needs_below stands below) (needs_below stands after) behind))))
  where
    length_none : (n : ℕ) → length (replicate n false) ≡ n
    length_none zero = refl
    length_none (suc n) = ap suc (length_none n)

    higher : (p : Option ℕ) (m n : ℕ) → IsAbove p m → m ≤ n → IsAbove p n
    higher None m n is less = tt
    higher (Some i) m n is less = omega arith

pub all_told : (stands : Planned → Bool) (f : Forest Planned) (rows : List (Slot code.Planned)) → Shows planned_view rows f
    → told_by stands 0 (seen planned_view 0 (laid rows)) (replicate (length rows) false) ≡ needs_below stands f
unfolding IsAbove
all_told stands f rows shows =
    let count : length rows ≡ size f = sym (length-seen planned_view 0 (laid rows) ∙ length-laid rows) ∙ (ap length shows ∙ length-places None 0 f) in
    ap₂ (λ ps n. told_by stands 0 ps (replicate n false)) shows count
    ∙ (ap (told_by stands 0 (places None 0 f)) (sym (append-nil (replicate (size f) false)))
    ∙ (told_all stands f None 0 [] [] refl tt ∙ append-nil (needs_below stands f)))

module _ {L M : Type 0} (see : ℕ → L → M) where
  seen_places : (p : Option ℕ) (k : ℕ) (f : Forest L) → seen see k (places p k f) ≡ places p k (numbered_by see k f)
  seen_places p k end = refl
  seen_places p k (node l below after) =
      let inner = places (Some k) (k + 1) below in
      let count : k + 1 + length inner ≡ k + suc (size below) = omega (arith, length-places (Some k) (k + 1) below) in
      ap₂ (λ n rest. record { parent = p; label = see k l; below = n } ∷ rest) (sym (size-by see (k + 1) below))
      (seen-append see (k + 1) inner (places p (k + suc (size below)) after)
      ∙ ap₂ (λ a b. a ++ b) (seen_places (Some k) (k + 1) below)
      (ap (λ n. seen see n (places p (k + suc (size below)) after)) count
      ∙ (seen_places p (k + suc (size below)) after
      ∙ ap (λ n. places p (k + suc n) (numbered_by see (k + suc (size below)) after)) (sym (size-by see (k + 1) below)))))

  -- rows that are laid out lie as the forest that they show
  pub shows_itself : (rows : List (Slot L)) → IsLaidOut rows → Shows see rows (numbered_by see 0 (forest_of rows))
  shows_itself rows lie = ap (seen see 0) lie ∙ seen_places None 0 (forest_of rows)

-- one row less is left
pub one_less : (stands : Planned → Bool) (rows : List (Slot code.Planned)) (i : ℕ) (r : Slot code.Planned) (none : List Bool) → i < length rows → r ≡ get_or rows i r
    → told_by stands i (seen planned_view i (laid (drop i rows))) none
    ≡ one_told stands i (planned_place i r) (told_by stands (i + 1) (seen planned_view (i + 1) (laid (drop (i + 1) rows))) none)
one_less stands rows i r none within is =
    let next : suc i ≡ i + 1 = omega arith in
    ap (λ xs. told_by stands i (seen planned_view i (laid xs)) none)
    (drop-cons rows i r within ∙ ap₂ (λ x n. x ∷ drop n rows) (sym is) next)

-- ---- what is known of the node of a number

-- what stands below each node of a forest, in preorder
belows : Forest Planned → List (Forest Planned)
belows end = []
belows (node l below after) = below ∷ (belows below ++ belows after)

length_belows : (f : Forest Planned) → length (belows f) ≡ size f
unfolding belows
length_belows end = refl
length_belows (node l below after) =
    ap suc (length-append (belows below) (belows after) ∙ ap₂ (λ m n. m + n) (length_belows below) (length_belows after))

by_belows : (stands : Planned → Bool) (f : Forest Planned) → needs_below stands f ≡ map (has_mandatory_by stands) (belows f)
unfolding belows
by_belows stands end = refl
by_belows stands (node l below after) =
    ap (λ xs. has_mandatory_by stands below ∷ xs)
    (ap₂ (λ xs ys. xs ++ ys) (by_belows stands below) (by_belows stands after) ∙ sym (map-append (has_mandatory_by stands) (belows below) (belows after)))

get_front : {X : Type 0} (xs ys : List X) (i : ℕ) → i < length xs → slice_get (xs ++ ys) i ≡ slice_get xs i
get_front [] ys i within = absurd (omega arith)
get_front (x ∷ xs) ys zero within = refl
get_front (x ∷ xs) ys (suc i) within = get_front xs ys i (omega arith)

get_behind : {X : Type 0} (xs ys : List X) (i n : ℕ) → length xs + i ≡ n → slice_get (xs ++ ys) n ≡ slice_get ys i
get_behind [] ys i n e = ap (slice_get ys) (omega arith)
get_behind (x ∷ xs) ys i zero e = absurd (omega arith)
get_behind (x ∷ xs) ys i (suc n) e = get_behind xs ys i n (omega arith)

-- one of those below the first node, or of those after it
joined_at : (xs ys : List (Forest Planned)) (i : ℕ) (behind : Option (Forest Planned))
    → ((m : ℕ) → length xs + m ≡ i → behind ≡ slice_get ys m) → joined_below (slice_get xs i) behind ≡ slice_get (xs ++ ys) i
joined_at xs ys i behind is = elim (cases_lt i (length xs)) [
  | inl less ↦ let there = slice_get-get_or xs i end less in
      ap (λ o. joined_below o behind) there ∙ (sym there ∙ sym (get_front xs ys i less))
  | inr other ↦ let past : length xs ≤ i = omega (arith, other) in
      let count : length xs + (i - length xs) ≡ i = omega (arith, past) in
      ap (λ o. joined_below o behind) (slice_get_past xs i past)
      ∙ (is (i - length xs) count ∙ sym (get_behind xs ys (i - length xs) i count))
]

found_below : (g : Forest code.Planned) (k j id : ℕ) → id ≡ k + j
    → find_below (λ p. p.number == id) (numbered_by planned_view k g) ≡ slice_get (belows (numbered_by planned_view k g)) j
unfolding belows
found_below end k j id e = refl
found_below (node l below after) k zero id e =
    let inner = numbered_by planned_view (k + 1) below in
    let behind = numbered_by planned_view (k + suc (size below)) after in
    ap (λ b. cond b (Some inner) (joined_below (find_below (λ p. p.number == id) inner) (find_below (λ p. p.number == id) behind)))
    (eq-eqb k id (omega (arith, e)))
found_below (node l below after) k (suc i) id e =
    let inner = numbered_by planned_view (k + 1) below in
    let behind = numbered_by planned_view (k + suc (size below)) after in
    let other : k ≢ id = omega (arith, e) in
    let count : length (belows inner) ≡ size below = length_belows inner ∙ size-by planned_view (k + 1) below in
    ap (λ b. cond b (Some inner) (joined_below (find_below (λ p. p.number == id) inner) (find_below (λ p. p.number == id) behind))) (ne_eqb k id other)
    ∙ (ap (λ o. joined_below o (find_below (λ p. p.number == id) behind)) (found_below below (k + 1) i id (omega (arith, e)))
    ∙ joined_at (belows inner) (belows behind) i (find_below (λ p. p.number == id) behind)
    (λ m at. found_below after (k + suc (size below)) m id (omega (arith, e, count, at))))

-- the table answers by number
pub told_at : (stands : Planned → Bool) (g : Forest code.Planned) (number : ℕ)
    → is_told (needs_below stands (numbered_by planned_view 0 g)) number
    ≡ has_mandatory_by stands (unwrap_or (find_below (λ p. p.number == number) (numbered_by planned_view 0 g)) end)
told_at stands g number = let f = numbered_by planned_view 0 g in
    ap (λ xs. is_told xs number) (by_belows stands f)
    ∙ (ap (λ o. unwrap_or o false) (slice_get-map (has_mandatory_by stands) (belows f) number)
    ∙ (by (slice_get (belows f) number)
    ∙ ap (λ o. has_mandatory_by stands (unwrap_or o end)) (sym (found_below g 0 number number (omega arith)))))
  where
    by : (o : Option (Forest Planned)) → unwrap_or (option_map (has_mandatory_by stands) o) false ≡ has_mandatory_by stands (unwrap_or o end)
    by None = refl
    by (Some f) = refl

-- where all stand, it is what is asked of all
pub mandatory_of_all : (f : Forest Planned) → has_mandatory_by all_stand f ≡ has_mandatory f
mandatory_of_all end = refl
mandatory_of_all (node p below after) =
    ap₂ (λ inside later. must_be p inside || later) (mandatory_of_all below) (mandatory_of_all after)
