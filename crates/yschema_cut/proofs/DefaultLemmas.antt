-- Default cases that don't stand, by the numbers of nodes.
use Rattle.std.proofs.Common.{◌≡◌, ℕ, zero, suc, ◌+◌, ◌<◌, ◌≤◌, Bool, true, false, cond, not, ◌&&◌, ◌||◌, List, [], ◌∷◌, ◌++◌, length, take, drop, get_or, Option, Some, None, refl, sym, ap, ap₂, ◌∙◌, subst, append_assoc, arith, length-append}
use Rattle.std.specs.Prelude.{◌==◌}
use Rattle.std.specs.List.{list_any}
use Rattle.std.specs.Option.{option_map_or}
use Rattle.std.proofs.lemmas.List.{take-append-drop, append-nil}
use Rattle.yspec.specs.Forest.{Forest, node, end, size, row}
use Rattle.yspec.specs.linking.Source.{Source, is_source_of, argument_with}
use Rattle.yspec.specs.linking.Keyword as word
use Rattle.yspec.specs.linking.Parts.{Part}
use Rattle.yspec_wide.specs.Standing.{is_none, is_case_named, has_case, is_default_off, with_default_on, without_default, standing_by}
use Rattle.ybase_preorder.specs.Layout.{Place, places, laid, seen, forest_of, numbered_by}
use Rattle.ybase_preorder.specs.declared.slot.Slot.{Slot}
use Rattle.ybase_preorder.proofs.LayoutLemmas.{parts_of, forest_seen}
use Rattle.ybase_preorder.proofs.LabelLemmas.{size-by}
use Rattle.yschema_cut.specs.Totals.{at, standing_in, standing_of, totals_of, totals_from}
use Rattle.yschema_cut.specs.Defaults.{counted_by, is_named, stands_in, is_lost, is_off, off_in, off_of, with_off}
use Rattle.yschema_cut.specs.Keeping.{with_defaults_on}
use Rattle.yschema_cut.proofs.TotalLemmas.{none_sized, stays, standing_node, standing_end, own_size, at_behind, at_past, totals_are}
use Rattle.yschema_cut.proofs.KeepingLemmas.{size_on}

get_past : (xs ys : List Bool) (n : ℕ) → get_or (xs ++ ys) (length xs + n) false ≡ get_or ys n false
get_past [] ys n = ap (λ k. get_or ys k false) (omega arith)
get_past (x ∷ xs) ys n =
    let next : suc (length xs) + n ≡ suc (length xs + n) = omega arith in
    ap (λ k. get_or (x ∷ (xs ++ ys)) k false) next ∙ get_past xs ys n

get_front : (xs ys : List Bool) (n : ℕ) → n < length xs → get_or (xs ++ ys) n false ≡ get_or xs n false
get_front [] ys n within = absurd (omega (arith, within))
get_front (x ∷ xs) ys zero within = refl
get_front (x ∷ xs) ys (suc n) within = get_front xs ys n (omega (arith, within))

take_front : {A : Type 0} (n : ℕ) (xs ys : List A) → n ≤ length xs → take n (xs ++ ys) ≡ take n xs
take_front zero xs ys within = refl
take_front (suc n) [] ys within = absurd (omega (arith, within))
take_front (suc n) (x ∷ xs) ys within = ap (λ rest. x ∷ rest) (take_front n xs ys (omega (arith, within)))

module _ (holds : Part → Bool) where
  -- ---- which stand

  own_none : (p : Part) (below : Forest Part) → not (is_none (standing_by holds (node p below end))) ≡ stays holds p below
  own_none p below = ap (λ f. not (is_none f)) (standing_node holds p below end) ∙ by (stays holds p below)
    where
      by : (b : Bool) → not (is_none (cond b (node (with_default_on p below (standing_by holds below)) (standing_by holds below) (standing_by holds end)) (standing_by holds end))) ≡ b
      by true = refl
      by false = ap (λ f. not (is_none f)) (standing_end holds)

  length_standing : (f : Forest Part) → length (standing_of holds f) ≡ size f
  length_standing end = refl
  length_standing (node p below after) =
      ap suc (length-append (standing_of holds below) (standing_of holds after) ∙ ap₂ (λ m n. m + n) (length_standing below) (length_standing after))

  standing_is : (t : List ℕ) (f : Forest Part) (behind : List ℕ) (number : ℕ) (parent : Option ℕ) (ps : List (Place Part))
      → ((n : ℕ) → at t (number + n) ≡ at (totals_from holds f behind) n)
      → standing_in t number (places parent number f ++ ps) ≡ standing_of holds f ++ standing_in t (number + size f) ps
  standing_is t end behind number parent ps same = ap (λ n. standing_in t n ps) (omega arith)
  standing_is t (node p below after) behind number parent ps same =
      let later = totals_from holds after behind in
      let own = standing_by holds (node p below end) in
      let plain : number ≡ number + 0 = omega arith in
      let far : number + 1 + size below ≡ number + suc (size below) = omega arith in
      let whole : number + suc (size below) + size after ≡ number + suc (size below + size after) = omega arith in
      let here : at t number ≡ size own + at later 0 = ap (at t) plain ∙ same 0 in
      let past : at t (number + 1 + size below) ≡ at later 0 = ap (at t) far ∙ (same (suc (size below)) ∙ at_past holds below later) in
      let inner = places (Some number) (number + 1) below in
      let others = places parent (number + suc (size below)) after in
      let inside = standing_is t below later (number + 1) (Some number) (others ++ ps) (λ n. ap (at t) (one_less number n) ∙ same (suc n)) in
      let rest = standing_is t after behind (number + suc (size below)) parent ps
      (λ n. ap (at t) (more_less number (size below) n) ∙ (same (suc (size below + n)) ∙ at_behind holds below later n)) in
      ap₂ (λ b qs. not b ∷ standing_in t (number + 1) qs) (ap₂ (λ a b. a == b) here past ∙ none_sized own (at later 0)) (append_assoc inner others ps)
      ∙ ap (λ bs. not (is_none own) ∷ bs)
      (inside ∙ (ap (λ n. standing_of holds below ++ standing_in t n (others ++ ps)) far
      ∙ (ap (λ bs. standing_of holds below ++ bs) (rest ∙ ap (λ n. standing_of holds after ++ standing_in t n ps) whole)
      ∙ sym (append_assoc (standing_of holds below) (standing_of holds after) (standing_in t (number + suc (size below + size after)) ps)))))
    where
      one_less : (a n : ℕ) → a + 1 + n ≡ a + suc n
      one_less a n = omega arith

      more_less : (a b n : ℕ) → a + suc b + n ≡ a + suc (b + n)
      more_less a b n = omega arith

  -- of a whole table
  pub all_standing : (f : Forest Part) → standing_in (totals_of holds (places None 0 f)) 0 (places None 0 f) ≡ standing_of holds f
  all_standing f =
      let t = totals_of holds (places None 0 f) in
      let is : t ≡ totals_from holds f (0 ∷ []) = ap (totals_of holds) (sym (append-nil (places None 0 f))) ∙ totals_are holds f None 0 [] in
      ap (standing_in t 0) (sym (append-nil (places None 0 f)))
      ∙ (standing_is t f (0 ∷ []) 0 None [] (λ n. ap (at t) (plain n) ∙ ap (λ ns. at ns n) is)
      ∙ append-nil (standing_of holds f))
    where
      plain : (n : ℕ) → 0 + n ≡ n
      plain n = omega arith

  -- ---- cases that stand

  -- what is told of the nodes of a forest from a number on
  abbrev pub Tells : List Bool → ℕ → Forest Part → Type 0
  Tells standing number f = (n : ℕ) → n < size f → stands_in standing (number + n) ≡ get_or (standing_of holds f) n false

  tells_below : (standing : List Bool) (number : ℕ) (p : Part) (below after : Forest Part) → Tells standing number (node p below after) → Tells standing (number + 1) below
  tells_below standing number p below after tells n within =
      let next : number + 1 + n ≡ number + suc n = omega arith in
      ap (stands_in standing) next ∙ (tells (suc n) (omega (arith, within))
      ∙ get_front (standing_of holds below) (standing_of holds after) n (omega (arith, within, length_standing below)))

  tells_after : (standing : List Bool) (number : ℕ) (p : Part) (below after : Forest Part) → Tells standing number (node p below after) → Tells standing (number + suc (size below)) after
  tells_after standing number p below after tells n within =
      let next : number + suc (size below) + n ≡ number + suc (size below + n) = omega arith in
      let count : size below + n ≡ length (standing_of holds below) + n = omega (arith, length_standing below) in
      ap (stands_in standing) next ∙ (tells (suc (size below + n)) (omega (arith, within))
      ∙ (ap (λ k. get_or (standing_of holds below ++ standing_of holds after) k false) count
      ∙ get_past (standing_of holds below) (standing_of holds after) n))

  module _ {L : Type 0} (see : ℕ → L → Part) where
    any_counted : (test : Part → Bool) (g : Forest L) (k : ℕ)
        → list_any (λ c. test c.label) (row (numbered_by (counted_by see) k g)) ≡ list_any test (row (numbered_by see k g))
    any_counted test end k = refl
    any_counted test (node l below after) k = ap (λ b. test (see k l) || b) (any_counted test after (k + suc (size below)))

    any_standing : (test : Part → Bool) → ((p : Part) (below standing : Forest Part) → test (with_default_on p below standing) ≡ test p)
        → (standing : List Bool) (g : Forest L) (k : ℕ) → Tells standing k (numbered_by see k g)
        → list_any (λ c. test c.label && stands_in standing c.number) (row (numbered_by (counted_by see) k g)) ≡ list_any test (row (standing_by holds (numbered_by see k g)))
    any_standing test same standing end k tells = ap (λ f. list_any test (row f)) (sym (standing_end holds))
    any_standing test same standing (node l below after) k tells =
        let p = see k l in
        let b = numbered_by see (k + 1) below in
        let a = numbered_by see (k + suc (size below)) after in
        let plain : k ≡ k + 0 = omega arith in
        let far : k + suc (size b) ≡ k + suc (size below) = omega (arith, size-by see (k + 1) below) in
        let here : stands_in standing k ≡ stays holds p b = ap (stands_in standing) plain ∙ (tells 0 (omega arith) ∙ own_none p b) in
        let rest = any_standing test same standing after (k + suc (size below)) (subst (λ n. Tells standing n a) far (tells_after standing k p b a tells)) in
        ap₂ (λ x y. (test p && x) || y) here rest
        ∙ (by (stays holds p b) p b a
        ∙ ap (λ f. list_any test (row f)) (sym (standing_node holds p b a)))
      where
        both : (x : Bool) → (x && true) ≡ x
        both true = refl
        both false = refl

        neither : (x : Bool) → (x && false) ≡ false
        neither true = refl
        neither false = refl

        by : (s : Bool) (p : Part) (b a : Forest Part) → ((test p && s) || list_any test (row (standing_by holds a)))
            ≡ list_any test (row (cond s (node (with_default_on p b (standing_by holds b)) (standing_by holds b) (standing_by holds a)) (standing_by holds a)))
        by true p b a = ap (λ x. x || list_any test (row (standing_by holds a))) (both (test p) ∙ sym (same p b (standing_by holds b)))
        by false p b a = ap (λ x. x || list_any test (row (standing_by holds a))) (neither (test p))

    named_same : (choice : Part) (name : List ℕ) (p : Part) (below standing : Forest Part) → is_case_named choice name (with_default_on p below standing) ≡ is_case_named choice name p
    named_same choice name p below standing = by (is_default_off p below standing)
      where
        by : (b : Bool) → is_case_named choice name (cond b (record p { own = without_default p.own }) p) ≡ is_case_named choice name p
        by true = refl
        by false = refl

    off_is : (p : Part) (standing : List Bool) (g : Forest L) (k : ℕ) → Tells standing k (numbered_by see k g)
        → is_off standing p (numbered_by (counted_by see) k g) ≡ is_default_off p (numbered_by see k g) (standing_by holds (numbered_by see k g))
    off_is p standing g k tells = ap (λ b. is_source_of word.choice_word p.source && b) (by (argument_with word.default_word p.own))
      where
        by : (o : Option (List ℕ)) → option_map_or (λ name. is_lost standing (is_named p.owner name) (numbered_by (counted_by see) k g)) o false
            ≡ option_map_or (λ name. has_case p name (numbered_by see k g) && not (has_case p name (standing_by holds (numbered_by see k g)))) o false
        by None = refl
        by (Some name) = ap₂ (λ a b. a && not b) (any_counted (is_case_named p name) g k)
            (any_standing (is_case_named p name) (named_same p name) standing g k tells)

    off_all : (standing : List Bool) (f : Forest Part) (parent : Option ℕ) (k : ℕ) (xs ys : List (Slot L)) → seen see k (laid xs) ≡ places parent k f
        → Tells standing k f → off_in see standing k (xs ++ ys) ≡ off_of holds f ++ off_in see standing (k + size f) ys
    off_all standing end parent k [] ys shows tells = ap (λ n. off_in see standing n ys) (omega arith)
    off_all standing end parent k (r ∷ xs) ys shows tells = absurd cc
    off_all standing (node p below after) parent k [] ys shows tells = absurd cc
    off_all standing (node p below after) parent k (r ∷ rest) ys shows tells =
        let parts = parts_of see p below after parent k r rest shows in
        let under = take r.below rest in
        let behind = drop r.below rest in
        let g = forest_of under in
        let is : numbered_by see (k + 1) g ≡ below = (forest_seen see below (Some k) (k + 1) under parts.0).0 in
        let far : k + 1 + size below ≡ k + suc (size below) = omega arith in
        let whole : k + suc (size below) + size after ≡ k + suc (size below + size after) = omega arith in
        let told = tells_below standing k p below after tells in
        let own : is_off standing (see k r.label) (numbered_by (counted_by see) (k + 1) (forest_of (take r.below (rest ++ ys)))) ≡ is_default_off p below (standing_by holds below) =
        ap (λ xs. is_off standing (see k r.label) (numbered_by (counted_by see) (k + 1) (forest_of xs))) (take_front r.below rest ys parts.2)
        ∙ (ap (λ q. is_off standing q (numbered_by (counted_by see) (k + 1) g)) parts.3
        ∙ (off_is p standing g (k + 1) (subst (Tells standing (k + 1)) (sym is) told)
        ∙ ap (λ f. is_default_off p f (standing_by holds f)) is)) in
        let split : rest ++ ys ≡ under ++ (behind ++ ys) = ap (λ xs. xs ++ ys) (sym (take-append-drop r.below rest)) ∙ append_assoc under behind ys in
        let inside = off_all standing below (Some k) (k + 1) under (behind ++ ys) parts.0 told in
        let others = off_all standing after parent (k + suc (size below)) behind ys parts.1 (tells_after standing k p below after tells) in
        ap₂ (λ b bs. b ∷ bs) own
        (ap (off_in see standing (k + 1)) split ∙ (inside ∙ (ap (λ n. off_of holds below ++ off_in see standing n (behind ++ ys)) far
        ∙ (ap (λ bs. off_of holds below ++ bs) (others ∙ ap (λ n. off_of holds after ++ off_in see standing n ys) whole)
        ∙ sym (append_assoc (off_of holds below) (off_of holds after) (off_in see standing (k + suc (size below + size after)) ys))))))

    -- of a whole table
    pub all_off : (f : Forest Part) (slots : List (Slot L)) → seen see 0 (laid slots) ≡ places None 0 f
        → off_in see (standing_of holds f) 0 slots ≡ off_of holds f
    all_off f slots shows =
        ap (off_in see (standing_of holds f) 0) (sym (append-nil slots))
        ∙ (off_all (standing_of holds f) f None 0 slots [] shows (λ n within. ap (stands_in (standing_of holds f)) (plain n))
        ∙ append-nil (off_of holds f))
      where
        plain : (n : ℕ) → 0 + n ≡ n
        plain n = omega arith

  -- ---- nodes that lose their default

  turned_off : (b : Bool) (q : Place Part)
      → cond b (record q { label = record q.label { own = without_default q.label.own } }) q ≡ record q { label = cond b (record q.label { own = without_default q.label.own }) q.label }
  turned_off true q = refl
  turned_off false q = refl

  off_placed : (f : Forest Part) (parent : Option ℕ) (number : ℕ) (off : List Bool) (ps : List (Place Part))
      → with_off (off_of holds f ++ off) (places parent number f ++ ps) ≡ places parent number (with_defaults_on holds f) ++ with_off off ps
  off_placed end parent number off ps = refl
  off_placed (node p below after) parent number off ps =
      let inner = places (Some number) (number + 1) below in
      let others = places parent (number + suc (size below)) after in
      let d = with_defaults_on holds below in
      let far : number + suc (size below) ≡ number + suc (size d) = omega (arith, size_on holds below) in
      let rest : with_off ((off_of holds below ++ off_of holds after) ++ off) ((inner ++ others) ++ ps)
      ≡ (places (Some number) (number + 1) d ++ places parent (number + suc (size d)) (with_defaults_on holds after)) ++ with_off off ps =
      ap₂ with_off (append_assoc (off_of holds below) (off_of holds after) off) (append_assoc inner others ps)
      ∙ (off_placed below (Some number) (number + 1) (off_of holds after ++ off) (others ++ ps)
      ∙ (ap (λ qs. places (Some number) (number + 1) d ++ qs) (off_placed after parent (number + suc (size below)) off ps
      ∙ ap (λ n. places parent n (with_defaults_on holds after) ++ with_off off ps) far)
      ∙ sym (append_assoc (places (Some number) (number + 1) d) (places parent (number + suc (size d)) (with_defaults_on holds after)) (with_off off ps)))) in
      let q : Place Part = record { parent = parent; label = p; below = size below } in
      ap₂ (λ q qs. q ∷ qs) (turned_off (is_default_off p below (standing_by holds below)) q ∙ ap (λ n. on (with_default_on p below (standing_by holds below)) n) (sym (size_on holds below))) rest
    where
      on : Part → ℕ → Place Part
      on label count = record { parent = parent; label = label; below = count }

  pub all_placed : (f : Forest Part) → with_off (off_of holds f) (places None 0 f) ≡ places None 0 (with_defaults_on holds f)
  all_placed f = ap₂ with_off (sym (append-nil (off_of holds f))) (sym (append-nil (places None 0 f)))
      ∙ (off_placed f None 0 [] [] ∙ append-nil (places None 0 (with_defaults_on holds f)))
