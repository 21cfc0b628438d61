-- What lies in a row of places, of which one comes in, those behind it or before it make way by one place, and the last of these goes.
use Rattle.std.proofs.Common.{◌≡◌, ℕ, zero, suc, ◌+◌, ◌-◌, ◌*◌, ◌<◌, ◌≤◌, Bool, true, false, Some, List, length, get_or, set, refl, sym, ap, ap₂, ◌∙◌, arith, ltb, eqb, insert, remove, slice_get, length-set}
use Rattle.std.specs.List.{CopiedTo, SameBelow, SameFrom}
use Rattle.std.proofs.lemmas.Bool.{ltb-true, ltb-false, eqb-true, eqb-false}
use Rattle.std.proofs.lemmas.Grind.{get_or-set_at}
use Rattle.std.proofs.lemmas.List.{get_or_read, get_or-set_other, same_lists}
use Rattle.std.proofs.lemmas.List.Edits.{get_or-insert_above, get_or-insert_at, get_or-insert_below, length-insert}
use Rattle.std.proofs.lemmas.Option.{same_Some, slice_get-get_or}
use Rattle.ybase_tiers.specs.Order.{in_order, index}
use Rattle.ybase_tiers.proofs.ListLemmas.{put_in, stepped_on, taken_out}
use Rattle.ybase_tiers.proofs.OrderLemmas.{Within}
use Rattle.ybase_tiers.proofs.TierLemmas.{get_is, set_is, stands_within}

module _ {X : Type 0} where
  above : (xs : List X) (i : ℕ) (y d : X) (k : ℕ) → i < k → i ≤ length xs → get_or (insert xs i y) k d ≡ get_or xs (k - 1) d
  above xs i y d k past within =
      let on : k ≡ k - 1 + 1 = omega (arith, past) in
      ap (λ j. get_or (insert xs i y) j d) on ∙ get_or-insert_above xs i y d (k - 1) (omega (arith, past)) within

  same_insertions : (xs ys : List X) (i j : ℕ) (x y : X) → length xs ≡ length ys → i ≤ length xs → j ≤ length ys
      → ((k : ℕ) (d : X) → k < length (insert xs i x) → get_or (insert xs i x) k d ≡ get_or (insert ys j y) k d) → insert xs i x ≡ insert ys j y
  same_insertions xs ys i j x y long i_in j_in each =
      same_lists (insert xs i x) (insert ys j y) (omega (arith, length-insert xs i x i_in, length-insert ys j y j_in, long)) each

  -- those from a place on moved one on, over what stood at an end
  pub put_first : (old new : List X) (from end n : ℕ) (x out : X) → from < end → end ≤ length old → length new ≡ length old → n ≡ end - 1 - from
      → CopiedTo old new from (from + 1) n → SameBelow old new (from + 1) → SameFrom old new (from + 1 + n) → out ≡ get_or old (end - 1) out
      → insert (set new from x) end out ≡ insert old from x
  put_first old new from end n x out order within long count copied below same held =
      same_insertions (set new from x) old end from out x (omega (arith, length-set new from x, long)) (omega (arith, length-set new from x, long, within)) (omega (arith, order, within))
      (λ k d less. by k d (ltb k from) refl (eqb k from) refl (ltb k end) refl (eqb k end) refl)
    where
      now : List X
      now = set new from x

      end_in : end ≤ length now
      end_in = omega (arith, length-set new from x, long, within)

      from_in : from ≤ length old
      from_in = omega (arith, order, within)

      by : (k : ℕ) (d : X) (a : Bool) → ltb k from ≡ a → (b : Bool) → eqb k from ≡ b → (c : Bool) → ltb k end ≡ c → (e : Bool) → eqb k end ≡ e
          → get_or (insert now end out) k d ≡ get_or (insert old from x) k d
      by k d true a b bb c cb e eb =
          let before = ltb-true k from a in
          get_or-insert_below now end out d k (omega (arith, before, order)) end_in
          ∙ (get_or-set_other new from k x d (λ at. absurd (omega (arith, before, at)))
          ∙ (below k d (omega (arith, before)) ∙ sym (get_or-insert_below old from x d k before from_in)))
      by k d false a true b c cb e eb =
          let at = eqb-true k from b in
          get_or-insert_below now end out d k (omega (arith, at, order)) end_in
          ∙ (get_or-set_at new from k x d at (omega (arith, order, within, long))
          ∙ (sym (get_or-insert_at old from x d from_in) ∙ ap (λ j. get_or (insert old from x) j d) (sym at)))
      by k d false a false b true c e eb =
          let past = ltb-false k from a in
          let other = eqb-false k from b in
          let here = ltb-true k end c in
          let back : from + (k - (from + 1)) ≡ k - 1 = omega (arith, past, other) in
          get_or-insert_below now end out d k here end_in
          ∙ (get_or-set_other new from k x d (λ at. absurd (omega (arith, other, at)))
          ∙ (copied k d (omega (arith, past, other)) (omega (arith, here, count, order))
          ∙ (ap (λ j. get_or old j d) back ∙ sym (above old from x d k (omega (arith, past, other)) from_in))))
      by k d false a false b false c true e =
          let at = eqb-true k end e in
          let last : end - 1 ≡ k - 1 = omega (arith, at) in
          ap (λ j. get_or (insert now end out) j d) at
          ∙ (get_or-insert_at now end out d end_in
          ∙ (get_or_read old (end - 1) out (omega (arith, order, within)) held d
          ∙ (ap (λ j. get_or old j d) last ∙ sym (above old from x d k (omega (arith, at, order)) from_in))))
      by k d false a false b false c false e =
          let past = ltb-false k end c in
          let other = eqb-false k end e in
          above now end out d k (omega (arith, past, other)) end_in
          ∙ (get_or-set_other new from (k - 1) x d (λ at. absurd (omega (arith, past, other, order, at)))
          ∙ (same (k - 1) d (omega (arith, past, other, order, count)) ∙ sym (above old from x d k (omega (arith, past, order)) from_in)))

  -- those behind a place moved one back, over what stood there
  pub put_last : (old new : List X) (from end n : ℕ) (x out : X) → from < end → end ≤ length old → length new ≡ length old → n ≡ end - (from + 1)
      → CopiedTo old new (from + 1) from n → SameBelow old new from → SameFrom old new (from + n) → out ≡ get_or old from out
      → insert (set new (end - 1) x) from out ≡ insert old end x
  put_last old new from end n x out order within long count copied below same held =
      same_insertions (set new (end - 1) x) old from end out x (omega (arith, length-set new (end - 1) x, long)) (omega (arith, length-set new (end - 1) x, long, order, within)) within
      (λ k d less. by k d (ltb k from) refl (eqb k from) refl (ltb k end) refl (eqb k end) refl)
    where
      now : List X
      now = set new (end - 1) x

      from_in : from ≤ length now
      from_in = omega (arith, length-set new (end - 1) x, long, order, within)

      by : (k : ℕ) (d : X) (a : Bool) → ltb k from ≡ a → (b : Bool) → eqb k from ≡ b → (c : Bool) → ltb k end ≡ c → (e : Bool) → eqb k end ≡ e
          → get_or (insert now from out) k d ≡ get_or (insert old end x) k d
      by k d true a b bb c cb e eb =
          let before = ltb-true k from a in
          get_or-insert_below now from out d k before from_in
          ∙ (get_or-set_other new (end - 1) k x d (λ at. absurd (omega (arith, before, order, at)))
          ∙ (below k d before ∙ sym (get_or-insert_below old end x d k (omega (arith, before, order)) within)))
      by k d false a true b c cb e eb =
          let at = eqb-true k from b in
          ap (λ j. get_or (insert now from out) j d) at
          ∙ (get_or-insert_at now from out d from_in
          ∙ (get_or_read old from out (omega (arith, order, within)) held d
          ∙ (sym (get_or-insert_below old end x d from order within) ∙ ap (λ j. get_or (insert old end x) j d) (sym at))))
      by k d false a false b true c e eb =
          let past = ltb-false k from a in
          let other = eqb-false k from b in
          let here = ltb-true k end c in
          let on : from + 1 + (k - 1 - from) ≡ k = omega (arith, past, other) in
          above now from out d k (omega (arith, past, other)) from_in
          ∙ (get_or-set_other new (end - 1) (k - 1) x d (λ at. absurd (omega (arith, past, other, here, at)))
          ∙ (copied (k - 1) d (omega (arith, past, other)) (omega (arith, past, other, here, count))
          ∙ (ap (λ j. get_or old j d) on ∙ sym (get_or-insert_below old end x d k here within))))
      by k d false a false b false c true e =
          let at = eqb-true k end e in
          above now from out d k (omega (arith, at, order)) from_in
          ∙ (get_or-set_at new (end - 1) (k - 1) x d (omega (arith, at)) (omega (arith, order, within, long))
          ∙ (sym (get_or-insert_at old end x d within) ∙ ap (λ j. get_or (insert old end x) j d) (sym at)))
      by k d false a false b false c false e =
          let past = ltb-false k end c in
          let other = eqb-false k end e in
          above now from out d k (omega (arith, past, order)) from_in
          ∙ (get_or-set_other new (end - 1) (k - 1) x d (λ at. absurd (omega (arith, past, other, order, at)))
          ∙ (same (k - 1) d (omega (arith, past, other, order, count)) ∙ sym (above old end x d k (omega (arith, past, other)) within)))

-- what is moved where places stand one behind the other is moved in the order too
pub moved : {X : Type 0} (starts : List ℕ) (n : ℕ) (old new : List X) (p i : ℕ) (x out : X) → Within 1024 starts → length starts * 1024 ≤ length old
    → length new ≡ length old → p + n ≤ length old → i + n ≤ length old → ((k : ℕ) → k < n → index 1024 starts (p + k) ≡ i + k)
    → insert new (i + n) out ≡ insert old i x → insert (in_order 1024 starts new) (p + n) out ≡ insert (in_order 1024 starts old) p x
moved starts zero old new p i x out within full long p_in i_in run whole =
    let i_at : i + 0 ≡ i = omega arith in
    let p_at : p + 0 ≡ p = omega arith in
    let here : insert new i out ≡ insert old i x = ap (λ k. insert new k out) (sym i_at) ∙ whole in
    let lists : new ≡ old =
    sym (taken_out new i out (omega (arith, long, i_in))) ∙ (ap (λ l. remove l i) here ∙ taken_out old i x (omega (arith, i_in))) in
    let values : out ≡ x =
    same_Some out x (sym (put_in new i out (omega (arith, long, i_in))) ∙ (ap (λ l. slice_get l i) here ∙ put_in old i x (omega (arith, i_in)))) in
    ap (λ k. insert (in_order 1024 starts new) k out) p_at ∙ ap₂ (λ l y. insert (in_order 1024 starts l) p y) lists values
moved starts (suc n) old new p i x out within full long p_in i_in run whole =
    let z = get_or old i x in
    let next = set old i x in
    let row = in_order 1024 starts old in
    let held : slice_get old i ≡ Some z = slice_get-get_or old i x (omega (arith, i_in)) in
    let first : p + 0 ≡ p = omega arith in
    let there : i + 0 ≡ i = omega arith in
    let here : i ≡ index 1024 starts p = sym (ap (index 1024 starts) (sym first) ∙ (run 0 (omega arith) ∙ there)) in
    let i_on : i + 1 + n ≡ i + suc n = omega arith in
    let p_on : p + suc n ≡ p + 1 + n = omega arith in
    let same = length-set old i x in
    let left = moved starts n next new (p + 1) (i + 1) z out within (omega (arith, full, same)) (omega (arith, long, same)) (omega (arith, p_in, same)) (omega (arith, i_in, same))
    (λ k less. let p_is : p + 1 + k ≡ p + suc k = omega arith in let i_is : i + suc k ≡ i + 1 + k = omega arith in
    ap (index 1024 starts) p_is ∙ (run (suc k) (omega (arith, less)) ∙ i_is))
    (ap (λ k. insert new k out) i_on ∙ (whole ∙ sym (stepped_on old i x z held))) in
    ap (λ k. insert (in_order 1024 starts new) k out) p_on
    ∙ (left
    ∙ (ap (λ l. insert l (p + 1) z) (set_is starts old full p i x within here)
    ∙ stepped_on row p x z (get_is starts old full p i z within here (omega (arith, p_in)) (omega (arith, i_in)) held)))

-- where those from a place on end
pub ends_within : (starts : List ℕ) (count place end i : ℕ) → Within 1024 starts → length starts * 1024 ≤ count → place < end → end ≤ count → i ≡ index 1024 starts place
    → ((k : ℕ) → place + k < end → index 1024 starts (place + k) ≡ index 1024 starts place + k) → i + (end - place) ≤ count
ends_within starts count place end i within full order end_in is run =
    let k = end - place - 1 in
    omega (arith, stands_within starts (place + k) count within full (omega (arith, order, end_in)), run k (omega (arith, order)), is, order)
