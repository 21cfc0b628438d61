-- What is told of a row, copied but for a part.
use Rattle.std.proofs.Common.{◌≡◌, ℕ, zero, suc, ◌+◌, ◌-◌, ◌^◌, ◌≤◌, Bool, true, false, cond, ltb, ltb-true, ltb-false, List, [], ◌∷◌, ◌++◌, map, length, take, drop, min, Option, Some, None, refl, sym, ap, ap₂, ◌∙◌, arith, append-nil, append_assoc}
use Rattle.std.specs.Prelude.{slice_get, option_to_list}
use Rattle.std.specs.Option.{option_map_or}
use Rattle.std.proofs.lemmas.List.{drop-map, take-map, map-append}
use Rattle.ystore.specs.Held.{Held}
use Rattle.ystore.specs.Store.{play_at}
use Rattle.ystore_rows.specs.declared.row.Row.{Row}
use Rattle.ystore.specs.declared.nodes.Nodes.{Nodes}
use Rattle.ystore_tree.specs.Parts.{OnlyReads}
use Rattle.yspec_play.specs.Absences.{Absent}
use Rattle.yspec_play.specs.Over.{is_before, told_before, told_instead}

module _ {X : Type 0} where
  take_more : (xs : List X) (k : ℕ) → take (suc k) xs ≡ take k xs ++ option_to_list (slice_get xs k)
  take_more [] zero = refl
  take_more [] (suc k) = refl
  take_more (x ∷ xs) zero = refl
  take_more (x ∷ xs) (suc k) = ap (λ ys. x ∷ ys) (take_more xs k)

  get_dropped : (xs : List X) (from k : ℕ) → slice_get (drop from xs) k ≡ slice_get xs (from + k)
  get_dropped [] zero k = let same : 0 + k ≡ k = omega arith in sym (ap (slice_get []) same)
  get_dropped [] (suc from) zero = refl
  get_dropped [] (suc from) (suc k) = refl
  get_dropped (x ∷ xs) zero k = let same : 0 + k ≡ k = omega arith in sym (ap (slice_get (x ∷ xs)) same)
  get_dropped (x ∷ xs) (suc from) k =
      let same : suc from + k ≡ suc (from + k) = omega arith in
      get_dropped xs from k ∙ sym (ap (slice_get (x ∷ xs)) same)

  -- one more of those that are copied
  pub copied_more : (all start xs now : List X) (from place : ℕ) → from ≤ place → all ≡ start ++ take (place - from) (drop from xs)
      → now ≡ all ++ option_to_list (slice_get xs place) → now ≡ start ++ take (place + 1 - from) (drop from xs)
  copied_more all start xs now from place less so then =
      let next : place + 1 - from ≡ suc (place - from) = omega (arith, less) in
      let here : from + (place - from) ≡ place = omega (arith, less) in
      then
      ∙ (ap₂ (λ ys m. ys ++ option_to_list (slice_get xs m)) so (sym here)
      ∙ (append_assoc start (take (place - from) (drop from xs)) (option_to_list (slice_get xs (from + (place - from))))
      ∙ ap (λ ys. start ++ ys)
      (ap (λ o. take (place - from) (drop from xs) ++ option_to_list o) (sym (get_dropped xs from (place - from)))
      ∙ (sym (take_more (drop from xs) (place - from)) ∙ ap (λ m. take m (drop from xs)) (sym next)))))

  pub copied_none : (start xs : List X) (from : ℕ) → start ≡ start ++ take (from - from) (drop from xs)
  copied_none start xs from =
      let none : from - from ≡ 0 = omega arith in
      sym (ap (λ m. start ++ take m (drop from xs)) none ∙ append-nil start)

  take_past : (xs : List X) (k m : ℕ) → slice_get xs k ≡ None → k ≤ m → take m xs ≡ take k xs
  take_past [] zero zero e less = refl
  take_past [] zero (suc m) e less = refl
  take_past [] (suc k) zero e less = refl
  take_past [] (suc k) (suc m) e less = refl
  take_past (x ∷ xs) zero m e less = absurd cc
  take_past (x ∷ xs) (suc k) zero e less = absurd (omega (arith, less))
  take_past (x ∷ xs) (suc k) (suc m) e less = ap (λ ys. x ∷ ys) (take_past xs k m e (omega (arith, less)))

  -- nothing is left to be copied behind the end
  pub copied_ended : (xs : List X) (from place until : ℕ) → from ≤ place → place - from ≤ until - from → slice_get xs place ≡ None
      → take (place - from) (drop from xs) ≡ take (until - from) (drop from xs)
  copied_ended xs from place until less more e =
      let here : from + (place - from) ≡ place = omega (arith, less) in
      sym (take_past (drop from xs) (place - from) (until - from) (get_dropped xs from (place - from) ∙ (ap (slice_get xs) here ∙ e)) more)

  take_whole : (xs : List X) (m : ℕ) → take (length xs - m) (drop m xs) ≡ drop m xs
  take_whole [] zero = refl
  take_whole [] (suc m) = let none : 0 - suc m ≡ 0 = omega arith in ap (λ k. take k (drop (suc m) [])) none
  take_whole (x ∷ xs) zero = let same : suc (length xs) - 0 ≡ suc (length xs) = omega arith in
      ap (λ k. take k (x ∷ xs)) same ∙ ap (λ ys. x ∷ ys) (all xs)
    where
      all : (ys : List X) → take (length ys) ys ≡ ys
      all [] = refl
      all (y ∷ ys) = ap (λ zs. y ∷ zs) (all ys)
  take_whole (x ∷ xs) (suc m) =
      let same : suc (length xs) - suc m ≡ length xs - m = omega arith in
      ap (λ k. take k (drop m xs)) same ∙ take_whole xs m

  drop_past : (xs : List X) (m : ℕ) → length xs ≤ m → drop m xs ≡ []
  drop_past [] zero past = refl
  drop_past [] (suc m) past = refl
  drop_past (x ∷ xs) zero past = absurd (omega (arith, past))
  drop_past (x ∷ xs) (suc m) past = drop_past xs m (omega (arith, past))

  drop_at : (xs : List X) (k : ℕ) (x : X) → slice_get xs k ≡ Some x → drop k xs ≡ x ∷ drop (k + 1) xs
  drop_at [] zero x e = absurd cc
  drop_at [] (suc k) x e = absurd cc
  drop_at (y ∷ xs) zero x e = let y_is : y ≡ x = cc in let one : 0 + 1 ≡ suc 0 = omega arith in ap (λ z. z ∷ xs) y_is ∙ ap (λ m. x ∷ drop m (y ∷ xs)) (sym one)
  drop_at (y ∷ xs) (suc k) x e = let one : suc k + 1 ≡ suc (k + 1) = omega arith in drop_at xs k x e ∙ ap (λ m. x ∷ drop m (y ∷ xs)) (sym one)

  drop_ended : (xs : List X) (k : ℕ) → slice_get xs k ≡ None → drop k xs ≡ []
  drop_ended [] zero e = refl
  drop_ended [] (suc k) e = refl
  drop_ended (y ∷ xs) zero e = absurd cc
  drop_ended (y ∷ xs) (suc k) e = drop_ended xs k e

-- ---- those that are told before a child

module _ {A : Type 0} (view : A → Absent) (child : Option ℕ) (xs : List A) where
  abbrev pub Passed : ℕ → Type 0
  Passed place = told_before child (map view xs) ≡ place + told_before child (drop place (map view xs))

  pub passed_none : Passed 0
  passed_none = omega arith

  first_of : (place : ℕ) (x : A) → slice_get xs place ≡ Some x → drop place (map view xs) ≡ view x ∷ drop (place + 1) (map view xs)
  first_of place x e =
      drop-map view place xs ∙ (ap (map view) (drop_at xs place x e) ∙ ap (λ ys. view x ∷ ys) (sym (drop-map view (place + 1) xs)))

  pub passed_more : (place : ℕ) (x : A) → slice_get xs place ≡ Some x → is_before child (view x).1 ≡ true → Passed place → Passed (place + 1)
  passed_more place x e before so =
      let first = ap (told_before child) (first_of place x e) in
      let more : told_before child (view x ∷ drop (place + 1) (map view xs)) ≡ suc (told_before child (drop (place + 1) (map view xs))) =
      ap (λ b. cond b (suc (told_before child (drop (place + 1) (map view xs)))) 0) before in
      omega (arith, so, first, more)

  pub passed_all : (place : ℕ) (x : A) → slice_get xs place ≡ Some x → is_before child (view x).1 ≡ false → Passed place → place ≡ told_before child (map view xs)
  passed_all place x e behind so =
      let first = ap (told_before child) (first_of place x e) in
      let none : told_before child (view x ∷ drop (place + 1) (map view xs)) ≡ 0 =
      ap (λ b. cond b (suc (told_before child (drop (place + 1) (map view xs)))) 0) behind in
      omega (arith, so, first, none)

  pub passed_end : (place : ℕ) → slice_get xs place ≡ None → Passed place → place ≡ told_before child (map view xs)
  passed_end place e so =
      let none = ap (told_before child) (drop-map view place xs ∙ ap (map view) (drop_ended xs place e)) in
      omega (arith, so, none)

  pub passed_length : (place : ℕ) → length xs ≤ place → Passed place → place ≡ told_before child (map view xs)
  passed_length place past so =
      let none = ap (told_before child) (drop-map view place xs ∙ ap (map view) (drop_past xs place past)) in
      omega (arith, so, none)

-- ---- all

-- what is copied: those before a place, something else, and those from another place on
pub instead_is : {A : Type 0} (view : A → Absent) (child : Option ℕ) (xs told first second third : List A) (count before from : ℕ) → before ≡ told_before child (map view xs)
    → from ≡ min (before + count) (2 ^ 64 - 1) → length xs ≤ 2 ^ 64 - 1 → first ≡ [] ++ take (before - 0) (drop 0 xs) → second ≡ first ++ told
    → third ≡ second ++ take (length xs - from) (drop from xs) → map view third ≡ told_instead child count (map view told) (map view xs)
instead_is view child xs told first second third count before from is from_is few one two three =
    let start : before - 0 ≡ before = omega arith in
    let front : first ≡ take before xs = one ∙ ap (λ m. take m (drop 0 xs)) start in
    let rest : take (length xs - from) (drop from xs) ≡ drop (before + count) xs = take_whole xs from ∙ ap (λ m. drop m xs) from_is ∙ capped (ltb (before + count) (2 ^ 64)) refl in
    let whole : third ≡ take before xs ++ (told ++ drop (before + count) xs) =
    three ∙ (ap₂ ◌++◌ (two ∙ ap (λ ys. ys ++ told) front) rest ∙ append_assoc (take before xs) told (drop (before + count) xs)) in
    ap (map view) whole
    ∙ (map-append view (take before xs) (told ++ drop (before + count) xs)
    ∙ (ap₂ ◌++◌ (sym (take-map view before xs)) (map-append view told (drop (before + count) xs) ∙ ap (λ ys. map view told ++ ys) (sym (drop-map view (before + count) xs)))
    ∙ ap (λ m. take m (map view xs) ++ (map view told ++ drop (m + count) (map view xs))) is))
  where
    capped : (b : Bool) → ltb (before + count) (2 ^ 64) ≡ b → drop (min (before + count) (2 ^ 64 - 1)) xs ≡ drop (before + count) xs
    capped true e =
        let less = ltb-true (before + count) (2 ^ 64) e in
        let same : min (before + count) (2 ^ 64 - 1) ≡ before + count = omega (arith, less) in
        ap (λ m. drop m xs) same
    capped false e =
        let more = ltb-false (before + count) (2 ^ 64) e in
        drop_past xs (min (before + count) (2 ^ 64 - 1)) (omega (arith, more, few)) ∙ sym (drop_past xs (before + count) (omega (arith, more, few)))

-- ---- a store that is read

pub play_read : (before after : Nodes) → OnlyReads before after → (r : Row) → play_at after r ≡ play_at before r
play_read before after only r = ap (λ o. option_map_or (λ (h : Held). h.told.play) o []) (only.held r)
