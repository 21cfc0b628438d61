-- The place of a node that is next to another place.
use Rattle.std.proofs.Common.{◌≡◌, ℕ, zero, suc, ◌+◌, ◌-◌, ◌<◌, ◌≤◌, Bool, true, false, cond, List, [], ◌∷◌, length, drop, take, refl, sym, ap, ◌∙◌, arith, ltb, leb, eqb, map, min, not, slice_get, option_map, Option, Some, None, zero-add, suc-add, one-add, length-drop}
use Rattle.std.specs.Prelude.{reverse}
use Rattle.std.specs.Option.{option_map_or}
use Rattle.std.proofs.lemmas.Bool.{ltb-true, ltb-false, leb-true, leb-false, lt-ltb, le-ltb, le-leb, lt-leb, eq-eqb, eqb-true, false≢true}
use Rattle.std.proofs.lemmas.List.{get_or-reverse, length-map, length-reverse, length-take-le}
use Rattle.std.proofs.lemmas.Option.{none-some, same_Some, slice_get-get_or, slice_get-map, slice_get_past, slice_get_within}
use Rattle.ystore_rows.specs.Places.{StandsOnce, nearer, place_near, place_of}
use Rattle.ystore_rows.specs.Rows.{Child}
use Rattle.ystore_rows.specs.declared.row.NodeId.{NodeId}
use Rattle.ystore_rows.proofs.RowLemmas.{entry_within, first_is, none_is}

no_node : NodeId
no_node = record { 0 = 0 }

abbrev pub Among : NodeId → List NodeId → ℕ → Type 0
Among node ids k = slice_get ids k ≡ Some node

-- ---- the first place

named : (m n : NodeId) → eqb m.0 n.0 ≡ true → Some m ≡ Some n
named m n e = ap (λ (k : ℕ). let id : NodeId = record { 0 = k } in Some id) (eqb-true m.0 n.0 e)

at_least : (node : NodeId) (ids : List NodeId) (k : ℕ) → ((j : ℕ) → j < k → Among node ids j → ⊥) → k ≤ length ids → k ≤ place_of node ids
at_least node ids zero none within = omega arith
at_least node [] (suc k) none within = absurd (omega (arith, within))
at_least node (x ∷ ids) (suc k) none within =
    by (eqb x.0 node.0) refl (at_least node ids k (λ j less. none (suc j) (omega (arith, less))) (omega (arith, within)))
  where
    by : (b : Bool) → eqb x.0 node.0 ≡ b → k ≤ place_of node ids → suc k ≤ place_of node (x ∷ ids)
    by true e rest = absurd (none zero (omega arith) (named x node e))
    by false e rest =
        let here : place_of node (x ∷ ids) ≡ 1 + place_of node ids = ap (λ b. cond (not b) (1 + place_of node ids) 0) e in
        omega (arith, here, rest)

there_at : (node : NodeId) (ids : List NodeId) → place_of node ids < length ids → Among node ids (place_of node ids)
there_at node [] within = absurd (omega (arith, within))
there_at node (x ∷ ids) within = by (eqb x.0 node.0) refl (there_at node ids)
  where
    by : (b : Bool) → eqb x.0 node.0 ≡ b → (place_of node ids < length ids → Among node ids (place_of node ids)) → Among node (x ∷ ids) (place_of node (x ∷ ids))
    by true e rest =
        ap (slice_get (x ∷ ids)) (ap (λ b. cond (not b) (1 + place_of node ids) 0) e) ∙ named x node e
    by false e rest =
        let here : place_of node (x ∷ ids) ≡ 1 + place_of node ids = ap (λ b. cond (not b) (1 + place_of node ids) 0) e in
        ap (slice_get (x ∷ ids)) (here ∙ one-add (place_of node ids)) ∙ rest (omega (arith, here, within))

none_there : (node : NodeId) (ids : List NodeId) → length ids ≤ place_of node ids → (j : ℕ) → Among node ids j → ⊥
none_there node [] past j held = none-some node held
none_there node (x ∷ ids) past zero held =
    let e = eq-eqb x.0 node.0 (ap (λ (n : NodeId). n.0) (same_Some x node held)) in
    let here : place_of node (x ∷ ids) ≡ 0 = ap (λ b. cond (not b) (1 + place_of node ids) 0) e in
    omega (arith, here, past)
none_there node (x ∷ ids) past (suc j) held = by (eqb x.0 node.0) refl (λ later. none_there node ids later j held)
  where
    by : (b : Bool) → eqb x.0 node.0 ≡ b → (length ids ≤ place_of node ids → ⊥) → ⊥
    by true e rest =
        let here : place_of node (x ∷ ids) ≡ 0 = ap (λ b. cond (not b) (1 + place_of node ids) 0) e in
        omega (arith, here, past)
    by false e rest =
        let here : place_of node (x ∷ ids) ≡ 1 + place_of node ids = ap (λ b. cond (not b) (1 + place_of node ids) 0) e in
        rest (omega (arith, here, past))

-- ---- what stands ahead of a place, and behind it

taken : {X : Type 0} (n k : ℕ) (xs : List X) → k < n → slice_get (take n xs) k ≡ slice_get xs k
taken zero k xs below = absurd (omega (arith, below))
taken (suc n) k [] below = refl
taken (suc n) zero (x ∷ xs) below = refl
taken (suc n) (suc k) (x ∷ xs) below = taken n k xs (omega (arith, below))

pub ahead : {X : Type 0} (n k : ℕ) (xs : List X) → slice_get (drop n xs) k ≡ slice_get xs (n + k)
ahead zero k xs = ap (slice_get xs) (sym (zero-add k))
ahead (suc n) k [] = refl
ahead (suc n) k (x ∷ xs) = ahead n k xs ∙ ap (slice_get (x ∷ xs)) (sym (suc-add n k))

long_behind : (at : ℕ) (ids : List NodeId) → at ≤ length ids → length (reverse (take at ids)) ≡ at
long_behind at ids within = length-reverse (take at ids) ∙ length-take-le at ids within

behind : (at k : ℕ) (ids : List NodeId) → at ≤ length ids → k < at → slice_get (reverse (take at ids)) k ≡ slice_get ids (at - 1 - k)
behind at k ids within less =
    let long = length-take-le at ids within in
    let back : length (take at ids) - 1 - k ≡ at - 1 - k = omega (arith, long) in
    slice_get-get_or (reverse (take at ids)) k no_node (omega (arith, long_behind at ids within, less))
    ∙ (ap Some (get_or-reverse (take at ids) k no_node (omega (arith, long, less)))
    ∙ (sym (slice_get-get_or (take at ids) (length (take at ids) - 1 - k) no_node (omega (arith, long, less)))
    ∙ (ap (slice_get (take at ids)) back ∙ taken at (at - 1 - k) ids (omega (arith, less)))))

-- ---- the nearer one

nearer_ahead : (at long a b : ℕ) → (b < at → a ≤ b) → (b < at → at + a < long) → nearer at long a b ≡ at + a
nearer_ahead at long a b first inside = by (ltb b at) refl
  where
    by : (here : Bool) → ltb b at ≡ here → nearer at long a b ≡ at + a
    by true here =
        let less = ltb-true b at here in
        rw (here, le-ltb b a (first less), lt-leb long (at + a) (inside less)) refl
    by false here = rw here refl

nearer_behind : (at long a b : ℕ) → b < at → (a ≤ b → long ≤ at + a) → nearer at long a b ≡ at - 1 - b
nearer_behind at long a b less past = by (ltb b a) refl
  where
    by : (here : Bool) → ltb b a ≡ here → nearer at long a b ≡ at - 1 - b
    by true here = rw (lt-ltb b at less, here) refl
    by false here = rw (lt-ltb b at less, here, le-leb long (at + a) (past (ltb-false b a here))) refl

-- ---- a search both ways

-- the node is none of those that stand less far from a place
abbrev pub NoneNear : NodeId → List NodeId → ℕ → ℕ → Type 0
NoneNear node ids at far = (k : ℕ) → at ≤ k + far → k < at + far → Among node ids k → ⊥

module _ (node : NodeId) (ids : List NodeId) (at : ℕ) (within : at ≤ length ids) where
  none_ahead : (far : ℕ) → NoneNear node ids at far → (j : ℕ) → j < far → Among node (drop at ids) j → ⊥
  none_ahead far none j less held = none (at + j) (omega arith) (omega (arith, less)) (sym (ahead at j ids) ∙ held)

  none_behind : (far : ℕ) → NoneNear node ids at far → (j : ℕ) → j < far → Among node (reverse (take at ids)) j → ⊥
  none_behind far none j less held = by (ltb j at) refl
    where
      by : (b : Bool) → ltb j at ≡ b → ⊥
      by true e =
          let before = ltb-true j at e in
          none (at - 1 - j) (omega (arith, less, before)) (omega (arith, before)) (sym (behind at j ids within before) ∙ held)
      by false e =
          none-some node (sym (slice_get_past (reverse (take at ids)) j (omega (arith, long_behind at ids within, ltb-false j at e))) ∙ held)

  long_ahead : length (drop at ids) ≡ length ids - at
  long_ahead = length-drop at ids

  pub is_ahead : (far : ℕ) → NoneNear node ids at far → Among node ids (at + far)
      → nearer at (length ids) (place_of node (drop at ids)) (place_of node (reverse (take at ids))) ≡ at + far
  is_ahead far none here =
      let first : place_of node (drop at ids) ≡ far = first_is node (drop at ids) far (none_ahead far none) (ahead at far ids ∙ here) in
      let inside = slice_get_within ids (at + far) node here in
      let b = place_of node (reverse (take at ids)) in
      let least = at_least node (reverse (take at ids)) (min far at) (λ j less. none_behind far none j (omega (arith, less))) (omega (arith, long_behind at ids within)) in
      nearer_ahead at (length ids) (place_of node (drop at ids)) b (λ less. omega (arith, first, least, less)) (λ less. omega (arith, first, inside))
      ∙ ap (λ n. at + n) first

  pub is_behind : (far : ℕ) → NoneNear node ids at far → (Among node ids (at + far) → ⊥) → far < at → Among node ids (at - 1 - far)
      → nearer at (length ids) (place_of node (drop at ids)) (place_of node (reverse (take at ids))) ≡ at - 1 - far
  is_behind far none other less here =
      let first : place_of node (reverse (take at ids)) ≡ far =
      first_is node (reverse (take at ids)) far (none_behind far none) (behind at far ids within less ∙ here) in
      let none_too : (j : ℕ) → j < suc far → Among node (drop at ids) j → ⊥ = λ j upto held. one_more j upto held (ltb j far) refl in
      let least = at_least node (drop at ids) (min (suc far) (length (drop at ids))) (λ j upto. none_too j (omega (arith, upto))) (omega arith) in
      nearer_behind at (length ids) (place_of node (drop at ids)) (place_of node (reverse (take at ids))) (omega (arith, first, less))
      (λ not_less. omega (arith, first, least, not_less, long_ahead))
      ∙ ap (λ n. at - 1 - n) first
    where
      one_more : (j : ℕ) → j < suc far → Among node (drop at ids) j → (b : Bool) → ltb j far ≡ b → ⊥
      one_more j upto held true e = none_ahead far none j (ltb-true j far e) held
      one_more j upto held false e =
          let past = ltb-false j far e in
          let same : j ≡ far = omega (arith, past, upto) in
          other (sym (ahead at far ids) ∙ (ap (slice_get (drop at ids)) (sym same) ∙ held))

  pub is_nowhere : (far : ℕ) → NoneNear node ids at far → length ids ≤ far
      → nearer at (length ids) (place_of node (drop at ids)) (place_of node (reverse (take at ids))) ≡ length ids
  is_nowhere far none all =
      let first = none_is node (drop at ids) (λ j less. none_ahead far none j (omega (arith, less, long_ahead, all))) in
      let last = none_is node (reverse (take at ids)) (λ j less. none_behind far none j (omega (arith, less, long_behind at ids within, within, all))) in
      nearer_ahead at (length ids) (place_of node (drop at ids)) (place_of node (reverse (take at ids)))
      (λ less. absurd (omega (arith, last, long_behind at ids within, less)))
      (λ less. absurd (omega (arith, last, long_behind at ids within, less)))
      ∙ (let whole : at + place_of node (drop at ids) ≡ length ids = omega (arith, first, long_ahead, within) in whole)

-- one further
pub none_further : (node : NodeId) (ids : List NodeId) (at far : ℕ) → NoneNear node ids at far → (Among node ids (at + far) → ⊥)
    → (far < at → Among node ids (at - 1 - far) → ⊥) → NoneNear node ids at (far + 1)
none_further node ids at far none ahead_none behind_none k from upto held = by (ltb k (at + far)) refl (leb at (k + far)) refl
  where
    by : (is_before : Bool) → ltb k (at + far) ≡ is_before → (is_from : Bool) → leb at (k + far) ≡ is_from → ⊥
    by false e is_from f =
        let past = ltb-false k (at + far) e in
        let same : k ≡ at + far = omega (arith, past, upto) in
        ahead_none (ap (slice_get ids) (sym same) ∙ held)
    by true e true f = none k (leb-true at (k + far) f) (ltb-true k (at + far) e) held
    by true e false f =
        let below = leb-false at (k + far) f in
        let same : k ≡ at - 1 - far = omega (arith, below, from) in
        behind_none (omega (arith, below)) (ap (slice_get ids) (sym same) ∙ held)

-- ---- the same of children

abbrev pub ids_of : List Child → List NodeId
ids_of of = map (λ c. c.1) of

-- whether it is this node, if there is one
abbrev pub is_node : NodeId → Option Child → Bool
is_node node there = option_map_or (λ c. eqb c.1.0 node.0) there false

it_is : (node : NodeId) (o : Option Child) → is_node node o ≡ true → option_map (λ c. c.1) o ≡ Some node
it_is node (Some c) e = named c.1 node e
it_is node None e = absurd (false≢true e)

it_is_not : (node : NodeId) (o : Option Child) → is_node node o ≡ false → option_map (λ c. c.1) o ≡ Some node → ⊥
it_is_not node (Some c) e same =
    false≢true (sym e ∙ eq-eqb c.1.0 node.0 (ap (λ (n : NodeId). n.0) (same_Some c.1 node same)))
it_is_not node None e same = none-some node same

pub stands : (node : NodeId) (of : List Child) (k : ℕ) → is_node node (slice_get of k) ≡ true → Among node (ids_of of) k
stands node of k e = slice_get-map (λ (c : Child). c.1) of k ∙ it_is node (slice_get of k) e

pub stands_not : (node : NodeId) (of : List Child) (k : ℕ) → is_node node (slice_get of k) ≡ false → Among node (ids_of of) k → ⊥
stands_not node of k e held = it_is_not node (slice_get of k) e (sym (slice_get-map (λ (c : Child). c.1) of k) ∙ held)

-- ---- those between two places of a row

module _ (first end : ℕ) (row : List Child) (order : first ≤ end) (within : end ≤ length row) where
  abbrev pub part : List Child
  part = take (end - first) (drop first row)

  pub part_long : length part ≡ end - first
  part_long = length-take-le (end - first) (drop first row) (omega (arith, order, within, length-drop first row))

  pub in_part : (node : NodeId) (k : ℕ) → k < end - first → is_node node (slice_get row (first + k)) ≡ is_node node (slice_get part k)
  in_part node k less = ap (is_node node) (sym (taken (end - first) k (drop first row) less ∙ ahead first k row))

  pub past_part : (node : NodeId) (k : ℕ) → end - first ≤ k → false ≡ is_node node (slice_get part k)
  past_part node k past = sym (ap (is_node node) (slice_get_past part k (omega (arith, past, part_long))))

module _ (node : NodeId) (of : List Child) (n : ℕ) where
  module _ (near : ℕ) (is : n ≡ min near (length of)) where
    long : length (ids_of of) ≡ length of
    long = length-map of (λ (c : Child). c.1)

    within : n ≤ length (ids_of of)
    within = omega (arith, is, long)

    whole : nearer n (length (ids_of of)) (place_of node (drop n (ids_of of))) (place_of node (reverse (take n (ids_of of)))) ≡ place_near near node (ids_of of)
    whole =
        ap (λ m. nearer m (length (ids_of of)) (place_of node (drop m (ids_of of))) (place_of node (reverse (take m (ids_of of)))))
        (is ∙ ap (min near) (sym long))

    pub found_ahead : (far : ℕ) → NoneNear node (ids_of of) n far → Among node (ids_of of) (n + far) → n + far ≡ place_near near node (ids_of of)
    found_ahead far none here = sym (is_ahead node (ids_of of) n within far none here) ∙ whole

    pub found_behind : (far : ℕ) → NoneNear node (ids_of of) n far → (Among node (ids_of of) (n + far) → ⊥) → far < n → Among node (ids_of of) (n - 1 - far)
        → n - 1 - far ≡ place_near near node (ids_of of)
    found_behind far none other less here = sym (is_behind node (ids_of of) n within far none other less here) ∙ whole

    pub found_nowhere : (far : ℕ) → NoneNear node (ids_of of) n far → length of ≤ far → length of ≡ place_near near node (ids_of of)
    found_nowhere far none all = sym long ∙ (sym (is_nowhere node (ids_of of) n within far none (omega (arith, long, all))) ∙ whole)

-- ---- a node that stands once

module _ (node : NodeId) (ids : List NodeId) (at : ℕ) (within : at ≤ length ids) where
  once : StandsOnce node ids → nearer at (length ids) (place_of node (drop at ids)) (place_of node (reverse (take at ids))) ≡ place_of node ids
  once alone = by (ltb b at) refl (ltb a (length (drop at ids))) refl
    where
      a : ℕ
      a = place_of node (drop at ids)

      b : ℕ
      b = place_of node (reverse (take at ids))

      stands : (k : ℕ) → Among node ids k → k ≡ place_of node ids
      stands k here = sym (first_is node ids k (λ j less held. let same = alone j k held here in absurd (omega (arith, less, same))) here)

      here_ahead : a < length (drop at ids) → Among node ids (at + a)
      here_ahead less = sym (ahead at a ids) ∙ there_at node (drop at ids) less

      here_behind : b < at → Among node ids (at - 1 - b)
      here_behind less = sym (behind at b ids within less) ∙ there_at node (reverse (take at ids)) (omega (arith, less, long_behind at ids within))

      by : (is_behind : Bool) → ltb b at ≡ is_behind → (is_ahead : Bool) → ltb a (length (drop at ids)) ≡ is_ahead
          → nearer at (length ids) a b ≡ place_of node ids
      by true e true f =
          let back = ltb-true b at e in
          let same = alone (at + a) (at - 1 - b) (here_ahead (ltb-true a (length (drop at ids)) f)) (here_behind back) in
          absurd (omega (arith, same, back))
      by true e false f =
          let back = ltb-true b at e in
          let past = ltb-false a (length (drop at ids)) f in
          nearer_behind at (length ids) a b back (λ _. omega (arith, past, length-drop at ids, within)) ∙ stands (at - 1 - b) (here_behind back)
      by false e true f =
          let out = ltb-false b at e in
          nearer_ahead at (length ids) a b (λ less. absurd (omega (arith, less, out))) (λ less. absurd (omega (arith, less, out)))
          ∙ stands (at + a) (here_ahead (ltb-true a (length (drop at ids)) f))
      by false e false f =
          let out = ltb-false b at e in
          let past = ltb-false a (length (drop at ids)) f in
          let most = entry_within node (drop at ids) in
          let whole : at + a ≡ length ids = omega (arith, past, most, length-drop at ids, within) in
          nearer_ahead at (length ids) a b (λ less. absurd (omega (arith, less, out))) (λ less. absurd (omega (arith, less, out)))
          ∙ (whole ∙ sym (none_is node ids (λ j less held. nowhere j held (ltb j at) refl)))
        where
          nowhere : (j : ℕ) → Among node ids j → (is_before : Bool) → ltb j at ≡ is_before → ⊥
          nowhere j held true g =
              let before = ltb-true j at g in
              let back : at - 1 - (at - 1 - j) ≡ j = omega (arith, before) in
              none_there node (reverse (take at ids)) (omega (arith, ltb-false b at e, long_behind at ids within)) (at - 1 - j)
              (behind at (at - 1 - j) ids within (omega (arith, before)) ∙ (ap (slice_get ids) back ∙ held))
          nowhere j held false g =
              let from = ltb-false j at g in
              let on : at + (j - at) ≡ j = omega (arith, from) in
              none_there node (drop at ids) (ltb-false a (length (drop at ids)) f) (j - at) (ahead at (j - at) ids ∙ (ap (slice_get ids) on ∙ held))

pub near_once : (near : ℕ) (node : NodeId) (ids : List NodeId) → StandsOnce node ids → place_near near node ids ≡ place_of node ids
near_once near node ids = once node ids (min near (length ids)) (omega arith)
