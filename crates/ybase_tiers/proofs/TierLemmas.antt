-- The same where each tier has 1024 places.
use Rattle.std.proofs.Common.{◌≡◌, ℕ, zero, suc, ◌+◌, ◌-◌, ◌*◌, ◌<◌, ◌≤◌, Some, List, [], ◌∷◌, ◌++◌, length, get_or, set, drop, take, sym, ap, ap₂, ◌∙◌, arith, cond, ltb, insert, remove, slice_get, take-append-drop, length-drop, length-take-le}
use Rattle.std.proofs.lemmas.Bool.{le-ltb, lt-ltb, ltb-true}
use Rattle.std.proofs.lemmas.Option.{get_or_from_slice_get, slice_get-get_or}
use Rattle.ybase_tiers.proofs.ListLemmas.{all_at}
use Rattle.ybase_tiers.specs.Order.{from_start, in_order, in_ring, index}
use Rattle.ybase_tiers.proofs.OrderLemmas.{Within, changed, get_in_order, index_less, index_past, index_up, inserted, length_in_order, opened, pushed_back, pushed_front, removed, set_in_order, up}

pub up_is : (tier i : ℕ) → up 1024 tier i ≡ tier * 1024 + i
up_is zero i = omega arith
up_is (suc tier) i = omega (arith, up_is tier i)

up_end : (tiers : ℕ) → up 1024 tiers 0 ≡ tiers * 1024
up_end tiers = omega (arith, up_is tiers 0)

-- where the one at a place of a tier stands
pub stands_at : (starts : List ℕ) (tier o place : ℕ) → place ≡ tier * 1024 + o → o < 1024 → tier < length starts
    → index 1024 starts place ≡ tier * 1024 + in_ring 1024 (get_or starts tier 0) o
stands_at starts tier o place is o_in t_in =
    ap (index 1024 starts) (is ∙ sym (up_is tier o)) ∙ (index_up 1024 tier starts o o_in t_in ∙ up_is tier (in_ring 1024 (get_or starts tier 0) o))

module _ (starts : List ℕ) (tier o place start : ℕ) (is : place ≡ tier * 1024 + o) (o_in : o < 1024) (t_in : tier < length starts) (held : get_or starts tier 0 ≡ start) where
  from : index 1024 starts place ≡ tier * 1024 + in_ring 1024 start o
  from = stands_at starts tier o place is o_in t_in ∙ ap (λ s. tier * 1024 + in_ring 1024 s o) held

  pub stands_before : start + o < 1024 → index 1024 starts place ≡ tier * 1024 + (start + o)
  stands_before less = from ∙ ap (λ b. tier * 1024 + cond b (start + o) (start + o - 1024)) (lt-ltb (start + o) 1024 less)

  pub stands_behind : 1024 ≤ start + o → index 1024 starts place ≡ tier * 1024 + (start + o) - 1024
  stands_behind past =
      let to : tier * 1024 + (start + o - 1024) ≡ tier * 1024 + (start + o) - 1024 = omega (arith, past) in
      from ∙ (ap (λ b. tier * 1024 + cond b (start + o) (start + o - 1024)) (le-ltb (start + o) 1024 past) ∙ to)

pub stands_within : (starts : List ℕ) (place n : ℕ) → Within 1024 starts → length starts * 1024 ≤ n → place < n → index 1024 starts place < n
stands_within starts place n within full p_in = index_less 1024 starts n place within (omega (arith, up_end (length starts), full)) p_in

pub stands_past : (starts : List ℕ) (place : ℕ) → length starts * 1024 ≤ place → index 1024 starts place ≡ place
stands_past starts place past = index_past 1024 starts place (omega (arith, up_end (length starts), past))

module _ {X : Type 0} (starts : List ℕ) (places : List X) (full : length starts * 1024 ≤ length places) where
  whole : up 1024 (length starts) 0 ≤ length places
  whole = omega (arith, up_end (length starts), full)

  pub set_is : (p i : ℕ) (x : X) → Within 1024 starts → i ≡ index 1024 starts p → in_order 1024 starts (set places i x) ≡ set (in_order 1024 starts places) p x
  set_is p i x within is = ap (λ k. in_order 1024 starts (set places k x)) is ∙ sym (set_in_order 1024 starts places p x within whole)

  pub get_is : (p i : ℕ) (x : X) → Within 1024 starts → i ≡ index 1024 starts p → p < length places → i < length places → slice_get places i ≡ Some x
      → slice_get (in_order 1024 starts places) p ≡ Some x
  get_is p i x within is p_in i_in held =
      slice_get-get_or (in_order 1024 starts places) p x (omega (arith, length_in_order 1024 starts places, p_in))
      ∙ ap Some (get_in_order 1024 starts places p x within whole ∙ (ap (λ k. get_or places k x) (sym is) ∙ get_or_from_slice_get places i x x held))

  pub read_is : (p i : ℕ) (x : X) → Within 1024 starts → i ≡ index 1024 starts p → x ≡ get_or places i x → x ≡ get_or (in_order 1024 starts places) p x
  read_is p i x within is held = held ∙ (ap (λ k. get_or places k x) is ∙ sym (get_in_order 1024 starts places p x within whole))

  pub front_is : (tier last start : ℕ) (x out : X) → tier < length starts → (last + 1 < 1024 → start ≡ last + 1) → (last + 1 ≡ 1024 → start ≡ 0) → last < 1024
      → get_or starts tier 0 ≡ start → slice_get places (tier * 1024 + last) ≡ Some out
      → insert (in_order 1024 (set starts tier last) (set places (tier * 1024 + last) x)) (tier * 1024 + 1024) out ≡ insert (in_order 1024 starts places) (tier * 1024) x
  front_is tier last start x out t_in inner outer l_in is held =
      let from : up 1024 tier 0 ≡ tier * 1024 = up_end tier in
      ap₂ (λ j k. insert (in_order 1024 (set starts tier last) (set places j x)) k out) (sym (up_is tier last)) (sym (up_is tier 1024))
      ∙ (changed 1024 tier starts places last last x out 0 1024 (omega arith) (omega arith) l_in t_in whole
      (ap (λ k. get_or places k out) (up_is tier last) ∙ get_or_from_slice_get places (tier * 1024 + last) out out held)
      (λ ring long here. pushed_front 1024 last start ring x out inner outer l_in long here ∙ ap (λ s. insert (from_start s ring) 0 x) (sym is))
      ∙ ap (λ k. insert (in_order 1024 starts places) k x) from)

  pub back_is : (tier start next : ℕ) (x out : X) → tier < length starts → (start + 1 < 1024 → next ≡ start + 1) → (start + 1 ≡ 1024 → next ≡ 0) → start < 1024
      → get_or starts tier 0 ≡ start → slice_get places (tier * 1024 + start) ≡ Some out
      → insert (in_order 1024 (set starts tier next) (set places (tier * 1024 + start) x)) (tier * 1024) out ≡ insert (in_order 1024 starts places) (tier * 1024 + 1024) x
  back_is tier start next x out t_in inner outer s_in is held =
      ap₂ (λ j k. insert (in_order 1024 (set starts tier next) (set places j x)) k out) (sym (up_is tier start)) (sym (up_end tier))
      ∙ (changed 1024 tier starts places next start x out 1024 0 (omega arith) (omega arith) s_in t_in whole
      (ap (λ k. get_or places k out) (up_is tier start) ∙ get_or_from_slice_get places (tier * 1024 + start) out out held)
      (λ ring long here. pushed_back 1024 start next ring x out inner outer s_in long here ∙ ap (λ s. insert (from_start s ring) 1024 x) (sym is))
      ∙ ap (λ k. insert (in_order 1024 starts places) k x) (up_is tier 1024))

  pub inserted_is : (p : ℕ) (y : X) → length starts * 1024 ≤ p → p ≤ length places → in_order 1024 starts (insert places p y) ≡ insert (in_order 1024 starts places) p y
  inserted_is p y from within = inserted 1024 starts places p y (omega (arith, up_end (length starts), from)) within

  pub removed_is : (p : ℕ) → length starts * 1024 ≤ p → p ≤ length places → in_order 1024 starts (remove places p) ≡ remove (in_order 1024 starts places) p
  removed_is p from within = removed 1024 starts places p (omega (arith, up_end (length starts), from)) within

-- the last tier as an open run
pub opened_is : {X : Type 0} (starts : List ℕ) (start : ℕ) (places : List X) → length starts * 1024 + 1024 ≡ length places
    → in_order 1024 (starts ++ start ∷ []) places ≡ in_order 1024 starts (take (length starts * 1024) places ++ from_start start (drop (length starts * 1024) places))
opened_is starts start places all =
    let end = length starts * 1024 in
    ap (in_order 1024 (starts ++ start ∷ [])) (sym (take-append-drop end places))
    ∙ opened 1024 starts start (take end places) (drop end places) (length-take-le end places (omega (arith, all)) ∙ sym (up_end (length starts))) (omega (arith, length-drop end places, all))

-- a start that is read
pub start_within : (starts : List ℕ) (tier start : ℕ) → Within 1024 starts → tier < length starts → start ≡ get_or starts tier start → start < 1024
start_within starts tier start within t_in held =
    let less = ltb-true (get_or starts tier start) 1024 (all_at (λ s. ltb s 1024) starts tier start within t_in) in omega (arith, less, held)

-- those that stand one behind the other
module _ (starts : List ℕ) (from : ℕ) where
  pub run_past : (k : ℕ) → length starts * 1024 ≤ from → index 1024 starts (from + k) ≡ index 1024 starts from + k
  run_past k past = stands_past starts (from + k) (omega (arith, past)) ∙ ap (λ i. i + k) (sym (stands_past starts from past))

  module _ (tier o start : ℕ) (is : from ≡ tier * 1024 + o) (t_in : tier < length starts) (held : get_or starts tier 0 ≡ start) where
    pub run_up_to_seam : (k : ℕ) → start + (o + k) < 1024 → index 1024 starts (from + k) ≡ index 1024 starts from + k
    run_up_to_seam k less =
        let on : tier * 1024 + (start + (o + k)) ≡ tier * 1024 + (start + o) + k = omega arith in
        stands_before starts tier (o + k) (from + k) start (omega (arith, is)) (omega (arith, less)) t_in held less
        ∙ (on ∙ ap (λ i. i + k) (sym (stands_before starts tier o from start is (omega (arith, less)) t_in held (omega (arith, less)))))

    pub run_from_seam : (k : ℕ) → 1024 ≤ start + o → o + k < 1024 → index 1024 starts (from + k) ≡ index 1024 starts from + k
    run_from_seam k past less =
        let on : tier * 1024 + (start + (o + k)) - 1024 ≡ tier * 1024 + (start + o) - 1024 + k = omega (arith, past) in
        stands_behind starts tier (o + k) (from + k) start (omega (arith, is)) less t_in held (omega (arith, past))
        ∙ (on ∙ ap (λ i. i + k) (sym (stands_behind starts tier o from start is (omega (arith, less)) t_in held past)))

-- and those of them from a place on
pub run_later : (starts : List ℕ) (from place end : ℕ) → from ≤ place → ((k : ℕ) → from + k < end → index 1024 starts (from + k) ≡ index 1024 starts from + k)
    → (k : ℕ) → place + k < end → index 1024 starts (place + k) ≡ index 1024 starts place + k
run_later starts from place end past run k less =
    let skipped = place - from in
    let there : place + k ≡ from + (skipped + k) = omega (arith, past) in
    let here : place ≡ from + skipped = omega (arith, past) in
    let on : index 1024 starts from + (skipped + k) ≡ index 1024 starts from + skipped + k = omega arith in
    ap (index 1024 starts) there
    ∙ (run (skipped + k) (omega (arith, past, less))
    ∙ (on ∙ ap (λ i. i + k) (sym (ap (index 1024 starts) here ∙ run skipped (omega (arith, past, less))))))
