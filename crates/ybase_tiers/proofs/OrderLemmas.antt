-- Rings of one size in a list: what stands where, and what changes where one of them, or what stands behind them, changes.
use Rattle.std.proofs.Common.{◌≡◌, ℕ, zero, suc, ◌+◌, ◌-◌, ◌<◌, ◌≤◌, Bool, true, false, cond, List, [], ◌∷◌, ◌++◌, length, get_or, set, drop, take, refl, sym, ap, ap₂, ◌∙◌, arith, ltb, insert, remove, append-nil, append_assoc, length-append, length-set, length-drop, length-take-le, get_or-drop, get_or-take, take_all, take_at, drop_at, take-append-drop, drop-set-lt, set-set, get_or-set_same}
use Rattle.std.specs.List.{list_all}
use Rattle.std.proofs.lemmas.Bool.{and_parts, ltb-true, ltb-false, lt-ltb, le-ltb}
use Rattle.std.proofs.lemmas.List.{drop-append-le, drop-set, drop-set-add, drop_all, get_or-append_right, get_or_append_left, nil_from_length, set-append_left, set-append_right, set-get_or, take-append-le, take-set, take-set-le, take_more}
use Rattle.std.proofs.lemmas.List.Edits.{insert-append_left, insert-append_right, insert_end, remove-append_right}
use Rattle.ybase_tiers.specs.Order.{from_start, in_order, in_ring, index}
use Rattle.ybase_tiers.proofs.ListLemmas.{insert_after, insert_behind, remove_behind, take_set}

abbrev pub Within : ℕ → List ℕ → Type 0
Within size starts = list_all (λ start. ltb start size) starts ≡ true

-- the place behind so many rings and elements
abbrev pub up : ℕ → ℕ → ℕ → ℕ
up size zero i = i
up size (suc tiers) i = size + up size tiers i

ring_less : (size start o : ℕ) → start < size → o < size → in_ring size start o < size
ring_less size start o s_in o_in = by (ltb (start + o) size) refl
  where
    by : (b : Bool) → ltb (start + o) size ≡ b → in_ring size start o < size
    by true e = let is : in_ring size start o ≡ start + o = ap (λ b. cond b (start + o) (start + o - size)) e in omega (arith, is, ltb-true (start + o) size e)
    by false e =
        let is : in_ring size start o ≡ start + o - size = ap (λ b. cond b (start + o) (start + o - size)) e in
        omega (arith, is, ltb-false (start + o) size e, s_in, o_in)

module _ {X : Type 0} where
  pub length_ring : (start : ℕ) (ring : List X) → length (from_start start ring) ≡ length ring
  length_ring start ring =
      let whole : length (take start ring ++ drop start ring) ≡ length ring = ap length (take-append-drop start ring) in
      omega (arith, length-append (drop start ring) (take start ring), length-append (take start ring) (drop start ring), whole)

  pub length_in_order : (size : ℕ) (starts : List ℕ) (places : List X) → length (in_order size starts places) ≡ length places
  length_in_order size [] places = refl
  length_in_order size (start ∷ starts) places =
      let whole : length (take size places ++ drop size places) ≡ length places = ap length (take-append-drop size places) in
      omega (arith, length-append (from_start start (take size places)) (in_order size starts (drop size places)), length_ring start (take size places), length_in_order size starts (drop size places), length-append (take size places) (drop size places), whole)

  first_long : (size start : ℕ) (places : List X) → size ≤ length places → length (from_start start (take size places)) ≡ size
  first_long size start places within = length_ring start (take size places) ∙ length-take-le size places within

  ring_get : (size start o : ℕ) (ring : List X) (d : X) → length ring ≡ size → start < size → o < size
      → get_or (from_start start ring) o d ≡ get_or ring (in_ring size start o) d
  ring_get size start o ring d long s_in o_in = by (ltb (start + o) size) refl
    where
      by : (b : Bool) → ltb (start + o) size ≡ b → get_or (from_start start ring) o d ≡ get_or ring (in_ring size start o) d
      by true e =
          get_or_append_left (drop start ring) (take start ring) d o (omega (arith, ltb-true (start + o) size e, long, length-drop start ring))
          ∙ (get_or-drop start ring o d ∙ ap (λ b. get_or ring (cond b (start + o) (start + o - size)) d) (sym e))
      by false e =
          let past = ltb-false (start + o) size e in
          let there : o - (size - start) ≡ start + o - size = omega (arith, past, s_in) in
          get_or-append_right (drop start ring) (take start ring) (size - start) o d (omega (arith, long, length-drop start ring)) (omega (arith, past, s_in))
          ∙ (get_or-take start ring (o - (size - start)) d (omega (arith, past, s_in, o_in))
          ∙ (ap (λ k. get_or ring k d) there ∙ ap (λ b. get_or ring (cond b (start + o) (start + o - size)) d) (sym e)))

  ring_set : (size start o : ℕ) (ring : List X) (x : X) → length ring ≡ size → start < size → o < size
      → set (from_start start ring) o x ≡ from_start start (set ring (in_ring size start o) x)
  ring_set size start o ring x long s_in o_in = by (ltb (start + o) size) refl
    where
      by : (b : Bool) → ltb (start + o) size ≡ b → set (from_start start ring) o x ≡ from_start start (set ring (in_ring size start o) x)
      by true e =
          set-append_left (drop start ring) (take start ring) o x (omega (arith, ltb-true (start + o) size e, long, length-drop start ring))
          ∙ (sym (ap₂ (λ u v. u ++ v) (drop-set-add start ring o x) (take-set-le start ring (start + o) x (omega arith)))
          ∙ ap (λ b. from_start start (set ring (cond b (start + o) (start + o - size)) x)) (sym e))
      by false e =
          let past = ltb-false (start + o) size e in
          let there : o - (size - start) ≡ start + o - size = omega (arith, past, s_in) in
          set-append_right (drop start ring) (take start ring) (size - start) o x (omega (arith, long, length-drop start ring)) (omega (arith, past, s_in))
          ∙ (ap (λ k. drop start ring ++ set (take start ring) k x) there
          ∙ (sym (ap₂ (λ u v. u ++ v) (drop-set-lt start ring (start + o - size) x (omega (arith, past, s_in, o_in))) (take_set start ring (start + o - size) x))
          ∙ ap (λ b. from_start start (set ring (cond b (start + o) (start + o - size)) x)) (sym e)))

  pub get_in_order : (size : ℕ) (starts : List ℕ) (places : List X) (p : ℕ) (d : X) → Within size starts → up size (length starts) 0 ≤ length places
      → get_or (in_order size starts places) p d ≡ get_or places (index size starts p) d
  get_in_order size [] places p d within full = refl
  get_in_order size (start ∷ starts) places p d within full =
      by (ltb p size) refl (get_in_order size starts (drop size places) (p - size) d (and_parts (ltb start size) (list_all (λ s. ltb s size) starts) within).1 (omega (arith, full, length-drop size places)))
    where
      parts : (ltb start size ≡ true) × (list_all (λ s. ltb s size) starts ≡ true)
      parts = and_parts (ltb start size) (list_all (λ s. ltb s size) starts) within

      long : length (from_start start (take size places)) ≡ size
      long = first_long size start places (omega (arith, full))

      at : Bool → ℕ
      at b = cond b (in_ring size start p) (size + index size starts (p - size))

      by : (b : Bool) → ltb p size ≡ b → get_or (in_order size starts (drop size places)) (p - size) d ≡ get_or (drop size places) (index size starts (p - size)) d → get_or (in_order size (start ∷ starts) places) p d ≡ get_or places (index size (start ∷ starts) p) d
      by true e rest =
          let here = ltb-true p size e in
          let s_in = ltb-true start size parts.0 in
          get_or_append_left (from_start start (take size places)) (in_order size starts (drop size places)) d p (omega (arith, here, long))
          ∙ (ring_get size start p (take size places) d (length-take-le size places (omega (arith, full))) s_in here
          ∙ (get_or-take size places (in_ring size start p) d (ring_less size start p s_in here) ∙ ap (λ b. get_or places (at b) d) (sym e)))
      by false e rest =
          get_or-append_right (from_start start (take size places)) (in_order size starts (drop size places)) size p d long (ltb-false p size e)
          ∙ (rest
          ∙ (get_or-drop size places (index size starts (p - size)) d ∙ ap (λ b. get_or places (at b) d) (sym e)))

  pub set_in_order : (size : ℕ) (starts : List ℕ) (places : List X) (p : ℕ) (x : X) → Within size starts → up size (length starts) 0 ≤ length places
      → set (in_order size starts places) p x ≡ in_order size starts (set places (index size starts p) x)
  set_in_order size [] places p x within full = refl
  set_in_order size (start ∷ starts) places p x within full =
      by (ltb p size) refl (set_in_order size starts (drop size places) (p - size) x (and_parts (ltb start size) (list_all (λ s. ltb s size) starts) within).1 (omega (arith, full, length-drop size places)))
    where
      parts : (ltb start size ≡ true) × (list_all (λ s. ltb s size) starts ≡ true)
      parts = and_parts (ltb start size) (list_all (λ s. ltb s size) starts) within

      long : length (from_start start (take size places)) ≡ size
      long = first_long size start places (omega (arith, full))

      at : Bool → ℕ
      at b = cond b (in_ring size start p) (size + index size starts (p - size))

      by : (b : Bool) → ltb p size ≡ b → set (in_order size starts (drop size places)) (p - size) x ≡ in_order size starts (set (drop size places) (index size starts (p - size)) x) → set (in_order size (start ∷ starts) places) p x ≡ in_order size (start ∷ starts) (set places (index size (start ∷ starts) p) x)
      by true e rest =
          let here = ltb-true p size e in
          let s_in = ltb-true start size parts.0 in
          set-append_left (from_start start (take size places)) (in_order size starts (drop size places)) p x (omega (arith, here, long))
          ∙ (ap (λ u. u ++ in_order size starts (drop size places)) (ring_set size start p (take size places) x (length-take-le size places (omega (arith, full))) s_in here)
          ∙ (sym (ap₂ (λ u v. from_start start u ++ in_order size starts v) (take_set size places (in_ring size start p) x) (drop-set-lt size places (in_ring size start p) x (ring_less size start p s_in here)))
          ∙ ap (λ b. in_order size (start ∷ starts) (set places (at b) x)) (sym e)))
      by false e rest =
          let k = index size starts (p - size) in
          set-append_right (from_start start (take size places)) (in_order size starts (drop size places)) size p x long (ltb-false p size e)
          ∙ (ap (λ u. from_start start (take size places) ++ u) rest
          ∙ (sym (ap₂ (λ u v. from_start start u ++ in_order size starts v) (take-set-le size places (size + k) x (omega arith)) (drop-set-add size places k x))
          ∙ ap (λ b. in_order size (start ∷ starts) (set places (at b) x)) (sym e)))

  -- one ring is changed at a place, and begins elsewhere
  pub changed : (size tier : ℕ) (starts : List ℕ) (places : List X) (next i : ℕ) (x out : X) (a b : ℕ) → a ≤ size → b ≤ size → i < size → tier < length starts
      → up size (length starts) 0 ≤ length places → get_or places (up size tier i) out ≡ out
      → ((ring : List X) → length ring ≡ size → get_or ring i out ≡ out → insert (from_start next (set ring i x)) b out ≡ insert (from_start (get_or starts tier 0) ring) a x)
      → insert (in_order size (set starts tier next) (set places (up size tier i) x)) (up size tier b) out ≡ insert (in_order size starts places) (up size tier a) x
  changed size tier [] places next i x out a b a_in b_in i_in t_in full held local = absurd (omega (arith, t_in))
  changed size zero (start ∷ starts) places next i x out a b a_in b_in i_in t_in full held local =
      let ring = take size places in
      let rest = in_order size starts (drop size places) in
      let long = length-take-le size places (omega (arith, full)) in
      ap₂ (λ u v. insert (from_start next u ++ in_order size starts v) b out) (take_set size places i x) (drop-set-lt size places i x i_in)
      ∙ (insert-append_left (from_start next (set ring i x)) rest b out (omega (arith, b_in, length_ring next (set ring i x), length-set ring i x, long))
      ∙ (ap (λ u. u ++ rest) (local ring long (get_or-take size places i out i_in ∙ held))
      ∙ sym (insert-append_left (from_start start ring) rest a x (omega (arith, a_in, length_ring start ring, long)))))
  changed size (suc tier) (start ∷ starts) places next i x out a b a_in b_in i_in t_in full held local =
      let first = from_start start (take size places) in
      let rest = drop size places in
      let long = first_long size start places (omega (arith, full)) in
      ap₂ (λ u v. insert (from_start start u ++ in_order size (set starts tier next) v) (size + up size tier b) out) (take-set-le size places (size + up size tier i) x (omega arith)) (drop-set-add size places (up size tier i) x)
      ∙ (insert_after first (in_order size (set starts tier next) (set rest (up size tier i) x)) size (up size tier b) out long
      ∙ (ap (λ u. first ++ u)
      (changed size tier starts rest next i x out a b a_in b_in i_in (omega (arith, t_in)) (omega (arith, full, length-drop size places))
      (get_or-drop size places (up size tier i) out ∙ held) local)
      ∙ sym (insert_after first (in_order size starts rest) size (up size tier a) x long)))

  -- one put in front of a ring, in the place of its last
  front : (last : ℕ) (ring : List X) (x out : X) → last < length ring → get_or ring last out ≡ out
      → from_start last (set ring last x) ++ out ∷ [] ≡ x ∷ from_start (last + 1) ring
  front last ring x out l_in held =
      ap₂ (λ u v. (u ++ v) ++ out ∷ []) (drop-set ring last x l_in) (take-set ring last x)
      ∙ (append_assoc (x ∷ drop (last + 1) ring) (take last ring) (out ∷ [])
      ∙ ap (λ u. x ∷ (drop (last + 1) ring ++ u)) (ap (λ y. take last ring ++ y ∷ []) (sym held) ∙ sym (take_more ring last out l_in)))

  whole_turn : (size : ℕ) (ring : List X) → length ring ≡ size → from_start size ring ≡ from_start 0 ring
  whole_turn size ring long = ap₂ (λ u v. u ++ v) (drop_all size ring (omega (arith, long))) (take_all size ring (omega (arith, long))) ∙ sym (append-nil ring)

  turned : (size start next : ℕ) (ring : List X) → length ring ≡ size → (start + 1 < size → next ≡ start + 1) → (start + 1 ≡ size → next ≡ 0) → start < size → from_start (start + 1) ring ≡ from_start next ring
  turned size start next ring long inner outer s_in = by (ltb (start + 1) size) refl
    where
      by : (b : Bool) → ltb (start + 1) size ≡ b → from_start (start + 1) ring ≡ from_start next ring
      by true e = ap (λ s. from_start s ring) (sym (inner (ltb-true (start + 1) size e)))
      by false e =
          let all : start + 1 ≡ size = omega (arith, ltb-false (start + 1) size e, s_in) in
          ap (λ s. from_start s ring) all ∙ (whole_turn size ring long ∙ ap (λ s. from_start s ring) (sym (outer all)))

  pub pushed_front : (size last start : ℕ) (ring : List X) (x out : X) → (last + 1 < size → start ≡ last + 1) → (last + 1 ≡ size → start ≡ 0) → last < size
      → length ring ≡ size → get_or ring last out ≡ out → insert (from_start last (set ring last x)) size out ≡ insert (from_start start ring) 0 x
  pushed_front size last start ring x out inner outer l_in long held =
      let now = from_start last (set ring last x) in
      let all : size ≡ length now = omega (arith, length_ring last (set ring last x), length-set ring last x, long) in
      ap (λ n. insert now n out) all
      ∙ (insert_end now out ∙ (front last ring x out (omega (arith, l_in, long)) held ∙ ap (λ u. x ∷ u) (turned size last start ring long inner outer l_in)))

  pub pushed_back : (size start next : ℕ) (ring : List X) (x out : X) → (start + 1 < size → next ≡ start + 1) → (start + 1 ≡ size → next ≡ 0) → start < size
      → length ring ≡ size → get_or ring start out ≡ out → insert (from_start next (set ring start x)) 0 out ≡ insert (from_start start ring) size x
  pushed_back size start next ring x out inner outer s_in long held =
      let now = set ring start x in
      let all : length (from_start start ring) ≡ size = length_ring start ring ∙ long in
      let back : set now start out ≡ ring = set-set ring start x out ∙ (ap (λ y. set ring start y) (sym held) ∙ set-get_or ring start out) in
      sym
      (ap (λ n. insert (from_start start ring) n x) (sym all)
      ∙ (insert_end (from_start start ring) x
      ∙ (ap (λ r. from_start start r ++ x ∷ []) (sym back)
      ∙ (front start now out x (omega (arith, s_in, long, length-set ring start x)) (get_or-set_same ring start x x (omega (arith, s_in, long)))
      ∙ ap (λ u. out ∷ u) (turned size start next now (length-set ring start x ∙ long) inner outer s_in)))))

  -- what stands behind the rings
  behind : (size start : ℕ) (starts : List ℕ) (ring rest : List X) → length ring ≡ size
      → in_order size (start ∷ starts) (ring ++ rest) ≡ from_start start ring ++ in_order size starts rest
  behind size start starts ring rest long = ap₂ (λ u v. from_start start u ++ in_order size starts v) (take_at ring rest size long) (drop_at ring rest size long)

  pub inserted : (size : ℕ) (starts : List ℕ) (places : List X) (p : ℕ) (y : X) → up size (length starts) 0 ≤ p → p ≤ length places
      → in_order size starts (insert places p y) ≡ insert (in_order size starts places) p y
  inserted size [] places p y from within = refl
  inserted size (start ∷ starts) places p y from within =
      let first = from_start start (take size places) in
      ap (in_order size (start ∷ starts)) (insert_behind size places p y (omega (arith, from)) within)
      ∙ (behind size start starts (take size places) (insert (drop size places) (p - size) y) (length-take-le size places (omega (arith, from, within)))
      ∙ (ap (λ u. first ++ u) (inserted size starts (drop size places) (p - size) y (omega (arith, from)) (omega (arith, from, within, length-drop size places)))
      ∙ sym (insert-append_right first (in_order size starts (drop size places)) size p y (first_long size start places (omega (arith, from, within))) (omega (arith, from)))))

  pub removed : (size : ℕ) (starts : List ℕ) (places : List X) (p : ℕ) → up size (length starts) 0 ≤ p → p ≤ length places
      → in_order size starts (remove places p) ≡ remove (in_order size starts places) p
  removed size [] places p from within = refl
  removed size (start ∷ starts) places p from within =
      let first = from_start start (take size places) in
      ap (in_order size (start ∷ starts)) (remove_behind size places p (omega (arith, from)) within)
      ∙ (behind size start starts (take size places) (remove (drop size places) (p - size)) (length-take-le size places (omega (arith, from, within)))
      ∙ (ap (λ u. first ++ u) (removed size starts (drop size places) (p - size) (omega (arith, from)) (omega (arith, from, within, length-drop size places)))
      ∙ sym (remove-append_right first (in_order size starts (drop size places)) size p (first_long size start places (omega (arith, from, within))) (omega (arith, from)))))

  pub closed : (size : ℕ) (starts : List ℕ) (places : List X) → in_order size (starts ++ 0 ∷ []) places ≡ in_order size starts places
  closed size [] places = ap (λ u. u ++ drop size places) (append-nil (take size places)) ∙ take-append-drop size places
  closed size (start ∷ starts) places = ap (λ u. from_start start (take size places) ++ u) (closed size starts (drop size places))

  pub opened : (size : ℕ) (starts : List ℕ) (start : ℕ) (before run : List X) → length before ≡ up size (length starts) 0 → length run ≡ size
      → in_order size (starts ++ start ∷ []) (before ++ run) ≡ in_order size starts (before ++ from_start start run)
  opened size [] start before run long all =
      let none = nil_from_length before long in
      ap (λ f. in_order size (start ∷ []) (f ++ run)) none
      ∙ (ap₂ (λ u v. from_start start u ++ v) (take_all size run (omega (arith, all))) (drop_all size run (omega (arith, all)))
      ∙ (append-nil (from_start start run) ∙ sym (ap (λ f. f ++ from_start start run) none)))
  opened size (first ∷ starts) start before run long all =
      let within : size ≤ length before = omega (arith, long) in
      let now = from_start start run in
      ap₂ (λ u v. from_start first u ++ in_order size (starts ++ start ∷ []) v) (take-append-le size before run within) (drop-append-le size before run within)
      ∙ (ap (λ u. from_start first (take size before) ++ u) (opened size starts start (drop size before) run (omega (arith, long, length-drop size before)) all)
      ∙ sym (ap₂ (λ u v. from_start first u ++ in_order size starts v) (take-append-le size before now within) (drop-append-le size before now within)))

-- where the one at a place stands
pub index_up : (size tier : ℕ) (starts : List ℕ) (o : ℕ) → o < size → tier < length starts
    → index size starts (up size tier o) ≡ up size tier (in_ring size (get_or starts tier 0) o)
index_up size tier [] o o_in t_in = absurd (omega (arith, t_in))
index_up size zero (start ∷ starts) o o_in t_in = ap (λ b. cond b (in_ring size start o) (size + index size starts (o - size))) (lt-ltb o size o_in)
index_up size (suc tier) (start ∷ starts) o o_in t_in =
    let p = size + up size tier o in
    let on : p - size ≡ up size tier o = omega arith in
    ap (λ b. cond b (in_ring size start p) (size + index size starts (p - size))) (le-ltb p size (omega arith))
    ∙ ap (λ k. size + k) (ap (index size starts) on ∙ index_up size tier starts o o_in (omega (arith, t_in)))

pub index_past : (size : ℕ) (starts : List ℕ) (p : ℕ) → up size (length starts) 0 ≤ p → index size starts p ≡ p
index_past size [] p past = refl
index_past size (start ∷ starts) p past =
    let on : size + (p - size) ≡ p = omega (arith, past) in
    ap (λ b. cond b (in_ring size start p) (size + index size starts (p - size))) (le-ltb p size (omega (arith, past)))
    ∙ (ap (λ k. size + k) (index_past size starts (p - size) (omega (arith, past))) ∙ on)

pub index_less : (size : ℕ) (starts : List ℕ) (n p : ℕ) → Within size starts → up size (length starts) 0 ≤ n → p < n → index size starts p < n
index_less size [] n p within full p_in = p_in
index_less size (start ∷ starts) n p within full p_in = by (ltb p size) refl (index_less size starts (n - size) (p - size) parts.1 (omega (arith, full)))
  where
    parts : (ltb start size ≡ true) × (list_all (λ s. ltb s size) starts ≡ true)
    parts = and_parts (ltb start size) (list_all (λ s. ltb s size) starts) within

    at : Bool → ℕ
    at b = cond b (in_ring size start p) (size + index size starts (p - size))

    by : (b : Bool) → ltb p size ≡ b → (p - size < n - size → index size starts (p - size) < n - size) → index size (start ∷ starts) p < n
    by true e rest =
        let here : index size (start ∷ starts) p ≡ in_ring size start p = ap at e in
        omega (arith, here, ring_less size start p (ltb-true start size parts.0) (ltb-true p size e), full)
    by false e rest =
        let there : index size (start ∷ starts) p ≡ size + index size starts (p - size) = ap at e in
        let past = ltb-false p size e in
        omega (arith, there, rest (omega (arith, past, p_in)), full)
