-- Where a refine's target stands among the last nodes of a table, by an index of them.
use Rattle.std.proofs.Common.{◌≡◌, ℕ, zero, suc, ◌+◌, ◌<◌, ◌≤◌, ◌^◌, ◌&&◌, Bool, true, false, cond, List, [], ◌∷◌, ◌++◌, drop, length, Option, Some, None, refl, sym, ap, ap₂, ◌∙◌, arith, inl, inr, ◌⊎◌, length-append, subst}
use Rattle.std.specs.Prelude.{option_map, option_and_then, slice_get}
use Rattle.std.specs.Option.{option_copied, option_map_or, IfSome}
use Rattle.std.specs.Borrow.{Bor}
use Rattle.std.proofs.lemmas.Bool.{lt-ltb, ltb-true, ne_eqb}
use Rattle.std.proofs.lemmas.List.{drop_at}
use Rattle.std.proofs.lemmas.Option.{none-some}
use Rattle.yspec.specs.Forest.{Forest, end, node, size, first_of}
use Rattle.yspec.specs.linking.Source.{Source}
use Rattle.yspec.specs.linking.Parts.{Part}
use Rattle.yspec.specs.linking.Augments.{Augment}
use Rattle.yspec.specs.linking.Prefixes.{NodeName}
use Rattle.yspec.specs.linking.Expansion.{is_step}
use Rattle.yspec.specs.linking.Planned.{same_number}
use Rattle.yspec_wide.specs.Language.{Language}
use Rattle.yspec_wide.specs.Expansion.{may_bear_in, may_take_in}
use Rattle.ybase_preorder.specs.Layout.{Place, laid, places, seen}
use Rattle.ybase_preorder.specs.declared.slot.Slot.{Slot}
use Rattle.ybase_preorder.proofs.LayoutLemmas.{length-laid, length-places, length-seen}
use Rattle.yschema_expand.specs.NodeView.{numbered_part, part_view}
use Rattle.yschema_expand.specs.declared.nodes.ExpandedNode.{ExpandedNode}
use Rattle.yschema_expand.specs.declared.indexing.TargetIndex.{TargetIndex}
use Rattle.yschema_expand.specs.TableView.{changed_place, refined_part}
use Rattle.yschema_expand.specs.Targets.{Found, found_in, found_at, fit_number, taking_number}
use Rattle.yschema_expand.specs.Indexing.{first_child, is_before, led, look_by, look_in, parent_of, part_in, sum_in, Indexes}
use Rattle.yschema_expand.proofs.IndexLemmas.{agrees, agrees_none, led_found, row_child}

-- ---- the parts that lie in places

get_before : {X : Type 0} (xs ys : List X) (i : ℕ) (x : X) → slice_get xs i ≡ Some x → slice_get (xs ++ ys) i ≡ Some x
get_before [] ys i x e = absurd (none-some x e)
get_before (y ∷ xs) ys zero x e = e
get_before (y ∷ xs) ys (suc i) x e = get_before xs ys i x e

get_behind : {X : Type 0} (xs ys : List X) (i n : ℕ) → length xs + i ≡ n → slice_get (xs ++ ys) n ≡ slice_get ys i
get_behind [] ys i n e = ap (slice_get ys) (sym (omega (arith, e)))
get_behind (y ∷ xs) ys i zero e = absurd (omega (arith, e))
get_behind (y ∷ xs) ys i (suc n) e = get_behind xs ys i n (omega (arith, e))

-- each part is that of its number
Known : (ℕ → Option Part) → ℕ → Forest Part → Type 0
Known part k end = Unit {0}
Known part k (node p below after) = (part k ≡ Some p) × Known part (k + 1) below × Known part (k + suc (size below)) after

known_of : (part : ℕ → Option Part) (q : Option ℕ) (k : ℕ) (f : Forest Part)
    → ((i : ℕ) (p : Place Part) → slice_get (places q k f) i ≡ Some p → part (k + i) ≡ Some p.label) → Known part k f
unfolding Known
known_of part q k end is = tt
known_of part q k (node p below after) is =
    let under = places (Some k) (k + 1) below in
    let behind = places q (k + suc (size below)) after in
    let here : k ≡ k + 0 = omega arith in (
      ap part here ∙ is 0 _ refl,
      known_of part (Some k) (k + 1) below (λ i x e.
          let next : k + 1 + i ≡ k + suc i = omega arith in
          ap part next ∙ is (suc i) x (get_before under behind i x e)),
      known_of part q (k + suc (size below)) after (λ i x e.
          let next : k + suc (size below) + i ≡ k + suc (length under + i) = omega (arith, length-places (Some k) (k + 1) below) in
          ap part next ∙ is (suc (length under + i)) x (get_behind under behind i (length under + i) refl ∙ e)),
    )

abbrev Own : (ℕ → Option Part) → Found → Type 0
Own part x = (part x.number ≡ Some x.part) × Known part (x.number + 1) x.below

known_found : (part : ℕ → Option Part) (test : Part → Bool) (k : ℕ) (f : Forest Part) (x : Found) → Known part k f → found_in test k f ≡ Some x → Own part x
unfolding Known
known_found part test k end x known e = absurd (none-some x e)
known_found part test k (node p below after) x known e =
    by (test p) e (λ later. known_found part test (k + suc (size below)) after x known.2 later)
  where
    by : (b : Bool) → cond b (Some (record { number = k; part = p; below = below })) (found_in test (k + suc (size below)) after) ≡ Some x
        → (found_in test (k + suc (size below)) after ≡ Some x → Own part x) → Own part x
    by true is rest = let same : record { number = k; part = p; below = below } ≡ x = cc in subst (Own part) same (known.0, known.1)
    by false is rest = rest is

known_at : (part : ℕ → Option Part) (steps : List NodeName) (k : ℕ) (f : Forest Part) (x : Found) → Known part k f → found_at steps k f ≡ Some x
    → part x.number ≡ Some x.part
known_at part [] k f x known e = absurd (none-some x e)
known_at part (step ∷ []) k f x known e = (known_found part (is_step step) k f x known e).0
known_at part (step ∷ next ∷ steps) k f x known e =
    by (found_in (is_step step) k f) (λ y is. (known_found part (is_step step) k f y known is).1) e (λ n g there is. known_at part (next ∷ steps) n g x there is)
  where
    by : (o : Option Found) → ((y : Found) → o ≡ Some y → Known part (y.number + 1) y.below)
        → option_and_then (λ (y : Found). found_at (next ∷ steps) (y.number + 1) y.below) o ≡ Some x
        → ((n : ℕ) (g : Forest Part) → Known part n g → found_at (next ∷ steps) n g ≡ Some x → part x.number ≡ Some x.part)
        → part x.number ≡ Some x.part
    by None each e rest = absurd (none-some x e)
    by (Some y) each e rest = rest (y.number + 1) y.below (each y refl) e

part_seen : (k : ℕ) (slots : List (Slot ExpandedNode)) (i : ℕ) (p : Place Part) → slice_get (seen numbered_part k (laid slots)) i ≡ Some p → part_in slots i ≡ Some p.label
part_seen k [] i p e = absurd (none-some p e)
part_seen k (r ∷ slots) zero p e = ap (option_map (λ (x : Place Part). x.label)) e
part_seen k (r ∷ slots) (suc i) p e = part_seen (k + 1) slots i p e

-- ---- the target

module _ (slots : List (Slot ExpandedNode)) (first : ℕ) (earlier : List (Place Part)) (parent : Option ℕ) (f : Forest Part) (count : length earlier ≡ first)
    (lie : seen numbered_part 0 (laid slots) ≡ earlier ++ places parent first f) where
  pub part_there : (steps : List NodeName) (x : Found) → found_at steps first f ≡ Some x → part_in slots x.number ≡ Some x.part
  part_there steps x e = known_at (part_in slots) steps first f x (known_of (part_in slots) parent first f (λ i p at.
      part_seen 0 slots (first + i) p (ap (λ ps. slice_get ps (first + i)) lie
      ∙ (get_behind earlier (places parent first f) i (first + i) (ap (λ n. n + i) count) ∙ at)))) e

  -- the number at which it stands, where that may bear what a refine gives
  pub fit_there : (language : Language) (steps : List NodeName) (given : Forest Source) (number : Option ℕ) → number ≡ option_map (λ x. x.number) (found_at steps first f)
      → option_and_then (λ n. cond (option_map_or (λ p. may_bear_in language p given) (part_in slots n) false) (Some n) None) number
      ≡ fit_number language given (found_at steps first f)
  fit_there language steps given number is = ap (option_and_then (λ n. cond (option_map_or (λ p. may_bear_in language p given) (part_in slots n) false) (Some n) None)) is
      ∙ by (found_at steps first f) (part_there steps)
    where
      by : (o : Option Found) → ((x : Found) → o ≡ Some x → part_in slots x.number ≡ Some x.part)
          → option_and_then (λ n. cond (option_map_or (λ p. may_bear_in language p given) (part_in slots n) false) (Some n) None) (option_map (λ x. x.number) o) ≡ fit_number language given o
      by None each = refl
      by (Some x) each = ap (λ p. cond {A = Option ℕ} (option_map_or (λ q. may_bear_in language q given) p false) (Some x.number) None) (each x refl)

  -- or where that may take what an augment states
  pub taking_there : (language : Language) (modules : Forest Source) (a : Augment) (steps : List NodeName) (number : Option ℕ)
      → number ≡ option_map (λ x. x.number) (found_at steps first f)
      → option_and_then (λ n. cond (option_map_or (λ p. may_take_in language modules a p) (part_in slots n) false) (Some n) None) number
      ≡ taking_number language modules a (found_at steps first f)
  taking_there language modules a steps number is =
      ap (option_and_then (λ n. cond (option_map_or (λ p. may_take_in language modules a p) (part_in slots n) false) (Some n) None)) is
      ∙ by (found_at steps first f) (part_there steps)
    where
      by : (o : Option Found) → ((x : Found) → o ≡ Some x → part_in slots x.number ≡ Some x.part)
          → option_and_then (λ n. cond (option_map_or (λ p. may_take_in language modules a p) (part_in slots n) false) (Some n) None) (option_map (λ x. x.number) o)
          ≡ taking_number language modules a o
      by None each = refl
      by (Some x) each = ap (λ p. cond {A = Option ℕ} (option_map_or (λ q. may_take_in language modules a q) p false) (Some x.number) None) (each x refl)

-- ---- an index

-- counted from another number on
shift : (m k : ℕ) (above : Option ℕ) (name : NodeName) (ps : List (Place Part)) → first_child above name (m + k) ps ≡ option_map (λ n. m + n) (first_child above name k ps)
shift m k above name [] = refl
shift m k above name (p ∷ ps) =
    let next : m + k + 1 ≡ m + (k + 1) = omega arith in
    ap (first_of (cond (same_number above p.parent && is_step name p.label) (Some (m + k)) None)) (ap (λ n. first_child above name n ps) next ∙ shift m (k + 1) above name ps)
    ∙ by (same_number above p.parent && is_step name p.label) (first_child above name (k + 1) ps)
  where
    by : (b : Bool) (o : Option ℕ) → first_of (cond b (Some (m + k)) None) (option_map (λ n. m + n) o) ≡ option_map (λ n. m + n) (first_of (cond b (Some k) None) o)
    by true o = refl
    by false o = refl

within : (k : ℕ) (above : Option ℕ) (name : NodeName) (ps : List (Place Part)) (n : ℕ) → first_child above name k ps ≡ Some n → n < k + length ps
within k above name [] n e = absurd (none-some n e)
within k above name (p ∷ ps) n e = by (same_number above p.parent && is_step name p.label) e (λ later. within (k + 1) above name ps n later)
  where
    by : (b : Bool) → first_of (cond b (Some k) None) (first_child above name (k + 1) ps) ≡ Some n
        → (first_child above name (k + 1) ps ≡ Some n → n < k + 1 + length ps) → n < k + suc (length ps)
    by true is rest = let same : k ≡ n = cc in omega (arith, same)
    by false is rest = let less = rest is in omega (arith, less)

summed : (m : ℕ) (o : Option ℕ) → ((n : ℕ) → o ≡ Some n → m + n < 2 ^ 32) → option_and_then (sum_in m) o ≡ option_map (λ n. m + n) o
summed m None few = refl
summed m (Some n) few = ap (λ b. cond {A = Option ℕ} b (Some (m + n)) None) (lt-ltb (m + n) (2 ^ 32) (few n refl))

before_apart : (q : Option ℕ) (first : ℕ) → is_before q first ≡ true → (j : ℕ) → first ≤ j → same_number q (Some j) ≡ false
before_apart None first before j more = refl
before_apart (Some n) first before j more = let less = ltb-true n first before in ne_eqb n j (λ e. absurd (omega (arith, less, more, e)))

apart_before : (q : Option ℕ) (first : ℕ) → is_before q first ≡ true → (j : ℕ) → first ≤ j → same_number (Some j) q ≡ false
apart_before None first before j more = refl
apart_before (Some n) first before j more = let less = ltb-true n first before in ne_eqb j n (λ e. absurd (omega (arith, less, more, e)))

top_is : (q : Option ℕ) (k : ℕ) (f : Forest Part) (x : Option ℕ) → x ≡ parent_of (places q k f) → (f ≡ end) ⊎ (x ≡ q)
top_is q k end x e = inl refl
top_is q k (node p below after) x e = inr e

module _ (first : ℕ) (x : TargetIndex) (ps : List (Place Part)) (is : Indexes first x ps) (few : length ps < 2 ^ 32)
    (earlier : List (Place Part)) (parent : Option ℕ) (f : Forest Part) (count : length earlier ≡ first) (lie : ps ≡ earlier ++ places parent first f) where
  last : drop first ps ≡ places parent first f
  last = ap (drop first) lie ∙ drop_at earlier (places parent first f) first count

  found : (above : Option ℕ) (name : NodeName) → look_in x above name ≡ first_child above name first (places parent first f)
  found above name =
      let plain : first + 0 ≡ first = omega arith in
      let all : length ps ≡ first + length (places parent first f) = ap length lie ∙ (length-append earlier (places parent first f) ∙ ap (λ n. n + length (places parent first f)) count) in
      ap₂ (λ m o. option_and_then (sum_in m) o) is.first_is (is.look above name ∙ ap (first_child above name 0) last)
      ∙ (summed first (first_child above name 0 (places parent first f)) (λ n e. let less = within 0 above name (places parent first f) n e in omega (arith, less, all, few))
      ∙ (sym (shift first 0 above name (places parent first f)) ∙ ap (λ n. first_child above name n (places parent first f)) plain))

  pub led_there : (steps : List NodeName) → led (look_in x) x.parent steps ≡ option_map (λ y. y.number) (found_at steps first f)
  led_there steps = by f last (top_is parent first f x.parent (is.parent ∙ ap parent_of last)) found
    where
      by : (g : Forest Part) → drop first ps ≡ places parent first g → (g ≡ end) ⊎ (x.parent ≡ parent)
          → ((above : Option ℕ) (name : NodeName) → look_in x above name ≡ first_child above name first (places parent first g))
          → led (look_in x) x.parent steps ≡ option_map (λ y. y.number) (found_at steps first g)
      by g at (inl none) there = subst (λ h. led (look_in x) x.parent steps ≡ option_map (λ y. y.number) (found_at steps first h)) (sym none)
          (led_found (look_in x) steps x.parent first end (agrees_none (look_in x) first)
          (λ name. there x.parent name ∙ ap (λ h. first_child x.parent name first (places parent first h)) none))
      by g at (inr same) there =
          let before : is_before parent first ≡ true = ap (λ q. is_before q first) (sym same) ∙ is.before in
          led_found (look_in x) steps x.parent first g
          (agrees (look_in x) parent first g (apart_before parent first before) (λ j name more less. there (Some j) name))
          (λ name. ap (λ q. look_in x q name) same ∙ (there parent name ∙ row_child parent name first g (before_apart parent first before)))

-- a path to which a row that begins at a number is given
pub number_there : (steps : List NodeName) (first k : ℕ) (f g : Forest Part) (found : Option Found) (number : Option ℕ)
    → number ≡ option_map (λ x. x.number) found → found ≡ found_at steps k g → k ≡ first → g ≡ f
    → number ≡ option_map (λ x. x.number) (found_at steps first f)
number_there steps first k f g found number is at first_is row_is =
    is ∙ (ap (option_map (λ x. x.number)) at ∙ ap₂ (λ n h. option_map (λ x. x.number) (found_at steps n h)) first_is row_is)

pub count_parts : (slots : List (Slot ExpandedNode)) → length (seen numbered_part 0 (laid slots)) ≡ length slots
count_parts slots = length-seen numbered_part 0 (laid slots) ∙ length-laid slots

pub by_ref : {T : Type 0} (r : Option (Bor T)) (o : Option T) (P : T → Type 0) → option_copied r ≡ o → IfSome o P → IfSome r (λ x. P x.now)
by_ref None o P same holds = tt
by_ref (Some x) o P same holds = subst (λ p. IfSome p P) (sym same) holds

-- ---- the places from a number on

unnumbered : (j k : ℕ) (ps : List (Place ExpandedNode)) → seen numbered_part j ps ≡ seen numbered_part k ps
unnumbered j k [] = refl
unnumbered j k (p ∷ ps) = ap (λ rest. record { parent = p.parent; label = part_view p.label; below = p.below } ∷ rest) (unnumbered (j + 1) (k + 1) ps)

last_seen : (k n : ℕ) (slots : List (Slot ExpandedNode)) → seen numbered_part k (laid (drop n slots)) ≡ drop n (seen numbered_part k (laid slots))
last_seen k zero slots = refl
last_seen k (suc n) [] = refl
last_seen k (suc n) (r ∷ slots) = unnumbered k (k + 1) (laid (drop n slots)) ∙ last_seen (k + 1) n slots

parent_seen : (k : ℕ) (ps : List (Place ExpandedNode)) → parent_of (seen numbered_part k ps) ≡ parent_of ps
parent_seen k [] = refl
parent_seen k (p ∷ ps) = refl

pub index_made : (slots rows : List (Slot ExpandedNode)) (first : ℕ) (x : TargetIndex) → x.first ≡ first → is_before x.parent first ≡ true
    → rows ≡ drop first slots → x.parent ≡ parent_of (laid rows)
    → ((above : Option ℕ) (name : NodeName) → look_by x.nodes above name ≡ first_child above name 0 (seen numbered_part 0 (laid rows)))
    → Indexes first x (seen numbered_part 0 (laid slots))
index_made slots rows first x first_is before rows_are parent_is look =
    let last : seen numbered_part 0 (laid rows) ≡ drop first (seen numbered_part 0 (laid slots)) =
    ap (λ xs. seen numbered_part 0 (laid xs)) rows_are ∙ last_seen 0 first slots in
    record {
      first_is = first_is;
      before = before;
      parent = parent_is ∙ (sym (parent_seen 0 (laid rows)) ∙ ap parent_of last);
      look = λ above name. look above name ∙ ap (first_child above name 0) last;
    }

-- ---- and after a refine

module _ (language : Language) (given : Forest Source) where
  kept_child : (n m k : ℕ) (above : Option ℕ) (name : NodeName) (ps : List (Place Part))
      → first_child above name k (drop m (changed_place n (refined_part language given) ps)) ≡ first_child above name k (drop m ps)
  kept_child n m k above name [] = refl
  kept_child zero zero k above name (p ∷ ps) = refl
  kept_child zero (suc m) k above name (p ∷ ps) = refl
  kept_child (suc n) zero k above name (p ∷ ps) =
      ap (first_of (cond (same_number above p.parent && is_step name p.label) (Some k) None)) (kept_child n zero (k + 1) above name ps)
  kept_child (suc n) (suc m) k above name (p ∷ ps) = kept_child n m k above name ps

  kept_parent : (n m : ℕ) (ps : List (Place Part)) → parent_of (drop m (changed_place n (refined_part language given) ps)) ≡ parent_of (drop m ps)
  kept_parent n m [] = refl
  kept_parent zero zero (p ∷ ps) = refl
  kept_parent zero (suc m) (p ∷ ps) = refl
  kept_parent (suc n) zero (p ∷ ps) = refl
  kept_parent (suc n) (suc m) (p ∷ ps) = kept_parent n m ps

  pub still : (n first : ℕ) (x : TargetIndex) (ps qs : List (Place Part)) → qs ≡ changed_place n (refined_part language given) ps → Indexes first x ps → Indexes first x qs
  still n first x ps qs e is = record {
    first_is = is.first_is;
    before = is.before;
    parent = is.parent ∙ (sym (kept_parent n first ps) ∙ ap (λ l. parent_of (drop first l)) (sym e));
    look = λ above name. is.look above name ∙ (sym (kept_child n first 0 above name ps) ∙ ap (λ l. first_child above name 0 (drop first l)) (sym e));
  }
