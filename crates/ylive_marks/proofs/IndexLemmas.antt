-- The nodes that hold a key, where one joins them or leaves them.
use Rattle.std.proofs.Common.{◌≡◌, ℕ, zero, suc, ◌+◌, ◌<◌, ◌≤◌, Bool, true, false, ◌&&◌, not, List, [], ◌∷◌, ◌++◌, length, get_or, slice_get, Option, Some, None, option_map, refl, sym, ap, ◌∙◌, arith, cond, eqb}
use Rattle.std.specs.List.{sum_by, swap_remove}
use Rattle.std.specs.Option.{option_map_or}
use Rattle.std.proofs.lemmas.Bool.{eq-eqb, eqb-true, eqb-false, ne_eqb, lt-ltb, false≢true}
use Rattle.std.proofs.lemmas.Option.{same_Some, none-some}
use Rattle.std.proofs.lemmas.List.Sums.{sum_by-cons, sum_by-append, sum_by-swap_remove}
use Rattle.ystore.specs.Entries.{Entry, place_of, without}
use Rattle.ystore.specs.Store.{entry_at, holders_at, instances_at, same_key}
use Rattle.ystore_rows.specs.declared.row.NodeId.{NodeId}
use Rattle.ystore.specs.declared.key.Key.{Key}
use Rattle.ystore.specs.declared.nodes.Nodes.{Nodes}
use Rattle.ystore_tree.specs.Hanging.{Branches, times}
use Rattle.ylive_marks.specs.Keys.{AreKeys, Indexes, Keys, among, has_key, slot_of, with_key}
use Rattle.ylive_marks.proofs.WayLemmas.{not_both}
use Rattle.ylive_marks.proofs.TotalLemmas.{mark}

-- ---- lists of nodes

is_it : ℕ → NodeId → ℕ
is_it k n = mark (eqb n.0 k)

pub among_more : (k : ℕ) (xs : List NodeId) (id : NodeId) → among k (xs ++ id ∷ []) ≡ among k xs + mark (eqb id.0 k)
among_more k xs id =
    let parts = sum_by-append (λ (n : NodeId). cond (eqb n.0 k) 1 0) xs (id ∷ []) in
    let one = sum_by-cons (λ (n : NodeId). cond (eqb n.0 k) 1 0) id [] in
    parts ∙ ap (λ m. among k xs + m) (one ∙ plain (mark (eqb id.0 k)))
  where
    plain : (m : ℕ) → m + 0 ≡ m
    plain m = omega arith

pub among-cons : (k : ℕ) (x : NodeId) (xs : List NodeId) → among k (x ∷ xs) ≡ mark (eqb x.0 k) + among k xs
among-cons k x xs = sum_by-cons (λ (n : NodeId). cond (eqb n.0 k) 1 0) x xs

found_place : (id : NodeId) (xs : List NodeId) → 1 ≤ among id.0 xs → (place_of id xs < length xs) × (eqb (get_or xs (place_of id xs) id).0 id.0 ≡ true)
found_place id [] some = absurd (omega (arith, some))
found_place id (x ∷ xs) some = by (λ more. found_place id xs more) (eqb x.0 id.0) refl
  where
    by : (1 ≤ among id.0 xs → (place_of id xs < length xs) × (eqb (get_or xs (place_of id xs) id).0 id.0 ≡ true))
        → (b : Bool) → eqb x.0 id.0 ≡ b → (place_of id (x ∷ xs) < length (x ∷ xs)) × (eqb (get_or (x ∷ xs) (place_of id (x ∷ xs)) id).0 id.0 ≡ true)
    by rest true e =
        let at : place_of id (x ∷ xs) ≡ 0 = ap (λ b. cond (not b) (1 + place_of id xs) 0) e in
        (omega (arith, at), ap (λ k. eqb (get_or (x ∷ xs) k id).0 id.0) at ∙ e)
    by rest false e =
        let at : place_of id (x ∷ xs) ≡ 1 + place_of id xs = ap (λ b. cond (not b) (1 + place_of id xs) 0) e in
        let next : 1 + place_of id xs ≡ suc (place_of id xs) = omega arith in
        let count = among-cons id.0 x xs in
        let none : mark (eqb x.0 id.0) ≡ 0 = ap mark e in
        let later = rest (omega (arith, count, none, some)) in
        (let less = later.0 in omega (arith, at, less), ap (λ k. eqb (get_or (x ∷ xs) k id).0 id.0) (at ∙ next) ∙ later.1)

ones : (xs : List NodeId) → sum_by (λ _. 1) xs ≡ length xs
ones [] = refl
ones (x ∷ xs) = let one = sum_by-cons (λ (_ : NodeId). 1) x xs in let rest = ones xs in omega (arith, one, rest)

module _ (id : NodeId) (xs : List NodeId) (some : 1 ≤ among id.0 xs) where
  taken : without id xs ≡ swap_remove xs (place_of id xs) id
  taken =
      let place = found_place id xs some in
      ap (λ b. cond b (swap_remove xs (place_of id xs) id) xs) (lt-ltb (place_of id xs) (length xs) place.0)

  pub among_less : (k : ℕ) → among k (without id xs) + mark (eqb id.0 k) ≡ among k xs
  among_less k =
      let place = found_place id xs some in
      let less = sum_by-swap_remove (λ (n : NodeId). cond (eqb n.0 k) 1 0) xs (place_of id xs) id place.0 in
      let is : (get_or xs (place_of id xs) id).0 ≡ id.0 = eqb-true (get_or xs (place_of id xs) id).0 id.0 place.1 in
      let e = ap (among k) taken in
      let m = ap (λ i. mark (eqb i k)) is in
      omega (arith, less, e, m)

  pub long_less : length (without id xs) + 1 ≡ length xs
  long_less =
      let place = found_place id xs some in
      let less = sum_by-swap_remove (λ (_ : NodeId). 1) xs (place_of id xs) id place.0 in
      let a = ones (without id xs) in let b = ones xs in let e = ap (sum_by (λ (_ : NodeId). 1)) taken in
      omega (arith, less, a, b, e)

pub first_among : (xs : List NodeId) (y : NodeId) → slice_get xs 0 ≡ Some y → 1 ≤ among y.0 xs
first_among [] y e = absurd (none-some y e)
first_among (x ∷ xs) y e =
    let count = among-cons y.0 x xs in
    let one : mark (eqb x.0 y.0) ≡ 1 = ap mark (eq-eqb x.0 y.0 (ap (λ (n : NodeId). n.0) (same_Some x y e))) in
    omega (arith, count, one)

pub only_first : (xs : List NodeId) (y : NodeId) (k : ℕ) → length xs ≡ 1 → slice_get xs 0 ≡ Some y → 1 ≤ among k xs → eqb y.0 k ≡ true
only_first [] y k long e some = absurd (none-some y e)
only_first (x ∷ []) y k long e some = by (eqb y.0 k) refl
  where
    by : (b : Bool) → eqb y.0 k ≡ b → eqb y.0 k ≡ true
    by true c = c
    by false c =
        let count = among-cons k x [] in
        let none : mark (eqb x.0 k) ≡ 0 = ap (λ (n : NodeId). mark (eqb n.0 k)) (same_Some x y e) ∙ ap mark c in
        absurd (omega (arith, count, none, some))
only_first (x ∷ z ∷ xs) y k long e some = absurd (omega (arith, long))

pub among_long : (k : ℕ) (xs : List NodeId) → 1 ≤ among k xs → 1 ≤ length xs
among_long k [] some = some
among_long k (x ∷ xs) some = omega arith

-- ---- slots

module _ (number slot : ℕ) (new : Option Key) (keys : Keys) where
  pub with_here : (m s : ℕ) → m ≡ number → s ≡ slot → with_key number slot new keys m s ≡ new
  with_here m s e d =
      ap (λ b. cond (b && eqb s slot) new (keys m s)) (eq-eqb m number e) ∙ ap (λ b. cond b new (keys m s)) (eq-eqb s slot d)

  pub with_other_number : (m s : ℕ) → eqb m number ≡ false → with_key number slot new keys m s ≡ keys m s
  with_other_number m s e = ap (λ b. cond (b && eqb s slot) new (keys m s)) e

  pub with_other_slot : (m s : ℕ) → eqb s slot ≡ false → with_key number slot new keys m s ≡ keys m s
  with_other_slot m s e = ap (λ b. cond (eqb m number && b) new (keys m s)) e ∙ by (eqb m number)
    where
      by : (b : Bool) → cond (b && false) new (keys m s) ≡ keys m s
      by true = refl
      by false = refl

pub in_slot : (o : Option Key) (key : Key) → option_map_or (same_key key) o false ≡ true → (k : Key) × (o ≡ Some k) × (same_key key k ≡ true)
in_slot (Some k) key e = (k, refl, e)
in_slot None key e = absurd (false≢true e)

module _ (nodes : Nodes) (keys : Keys) (f : Branches) (index : Indexes nodes keys f) where
  pub held : (key : Key) (number : ℕ) → has_key keys number key ≡ true → among number (holders_at nodes key) ≡ 1
  held key number e = index.holders key number ∙ ap mark e

  pub holds : (key : Key) (number : ℕ) → 1 ≤ among number (holders_at nodes key) → has_key keys number key ≡ true
  holds key number some = by (has_key keys number key) refl
    where
      by : (b : Bool) → has_key keys number key ≡ b → has_key keys number key ≡ true
      by true e = e
      by false e = let none = index.holders key number ∙ ap mark e in absurd (omega (arith, none, some))

  pub held_slot : (number slot : ℕ) (key other : Key) → keys number slot ≡ Some other → same_key key other ≡ true → slot_of key ≡ slot → has_key keys number key ≡ true
  held_slot number slot key other e same is = ap (λ s. option_map_or (same_key key) (keys number s) false) is ∙ (ap (λ o. option_map_or (same_key key) o false) e ∙ same)

  pub stands : (number slot : ℕ) (key : Key) → keys number slot ≡ Some key → 0 < times number f
  stands number slot key e = by (times number f) refl
    where
      by : (k : ℕ) → times number f ≡ k → 0 < times number f
      by zero none = absurd (none-some key (sym (index.outside number slot none) ∙ e))
      by (suc k) some = omega (arith, some)

  pub key_stands : (number : ℕ) (key : Key) → has_key keys number key ≡ true → 0 < times number f
  key_stands number key e = let slot = in_slot (keys number (slot_of key)) key e in stands number (slot_of key) slot.0 slot.1

-- ---- an entry that changes

module _ (laws : AreKeys) where
  pub apart_turned : (key other : Key) → same_key key other ≡ false → same_key other key ≡ false
  apart_turned key other e = not_both (same_key other key) (λ t. false≢true (sym e ∙ laws.turned other key t))

  module _ (key : Key) (change : Entry → Entry) (before after : Nodes)
      (changed : entry_at after key ≡ option_map change (entry_at before key))
      (others : (other : Key) → same_key key other ≡ false → entry_at after other ≡ entry_at before other) where
    entry_here : (other : Key) → same_key key other ≡ true → entry_at after other ≡ option_map change (entry_at before other)
    entry_here other e = sym (laws.found after key other e) ∙ (changed ∙ ap (option_map change) (laws.found before key other e))

    pub instances_same : ((e : Entry) → (change e).instances ≡ e.instances) → (other : Key) → instances_at after other ≡ instances_at before other
    instances_same leaves other = by (same_key key other) refl
      where
        still : (o : Option Entry) → option_map_or (λ e. e.instances) (option_map change o) 0 ≡ option_map_or (λ e. e.instances) o 0
        still (Some e) = leaves e
        still None = refl

        by : (b : Bool) → same_key key other ≡ b → instances_at after other ≡ instances_at before other
        by true e = ap (λ o. option_map_or (λ e. e.instances) o 0) (entry_here other e) ∙ still (entry_at before other)
        by false e = ap (λ o. option_map_or (λ e. e.instances) o 0) (others other e)

    pub holders_else : (other : Key) → same_key key other ≡ false → holders_at after other ≡ holders_at before other
    holders_else other e = ap (λ o. option_map_or (λ e. e.nodes) o []) (others other e)

    pub holders_here : (grow : List NodeId → List NodeId) → ((e : Entry) → (change e).nodes ≡ grow e.nodes) → (entry_at before key ≡ None → grow [] ≡ [])
        → (other : Key) → same_key key other ≡ true → holders_at after other ≡ grow (holders_at before other)
    holders_here grow grows none other e = ap (λ o. option_map_or (λ e. e.nodes) o []) (entry_here other e) ∙ still (entry_at before other) refl
      where
        still : (o : Option Entry) → entry_at before other ≡ o → option_map_or (λ e. e.nodes) (option_map change o) [] ≡ grow (option_map_or (λ e. e.nodes) o [])
        still (Some e) is = grows e
        still None is = sym (none (laws.found before key other e ∙ is))

  -- ---- a node that joins or leaves

  module _ (key : Key) (id : NodeId) (keys : Keys) (f : Branches) (before after : Nodes) (index : Indexes before keys f)
      (else : (other : Key) → same_key key other ≡ false → holders_at after other ≡ holders_at before other) where
    slot : ℕ
    slot = slot_of key

    pub joined : (keys id.0 (slot_of key) ≡ None) → 0 < times id.0 f
        → ((other : Key) → same_key key other ≡ true → holders_at after other ≡ holders_at before other ++ id ∷ [])
        → Indexes after (with_key id.0 (slot_of key) (Some key) keys) f
    joined free there here =
        record {
          holders = λ k number. counts k number (same_key key k) refl (eqb number id.0) refl;
          slots = λ number s k. slots number s k (eqb number id.0) refl (eqb s (slot_of key)) refl;
          outside = λ number s none. with_other_number id.0 (slot_of key) (Some key) keys number s
              (ne_eqb number id.0 (λ same. absurd (let e = ap (λ n. times n f) same in omega (arith, e, none, there)))) ∙ index.outside number s none;
        }
      where
        now : Keys
        now = with_key id.0 (slot_of key) (Some key) keys

        unheld : (k : Key) (number : ℕ) → number ≡ id.0 → slot_of k ≡ slot_of key → among number (holders_at before k) ≡ 0
        unheld k number same is =
            index.holders k number
            ∙ ap (λ o. mark (option_map_or (same_key k) o false)) (ap (λ n. keys n (slot_of k)) same ∙ (ap (λ s. keys id.0 s) is ∙ free))

        counts : (k : Key) (number : ℕ) (b : Bool) → same_key key k ≡ b → (c : Bool) → eqb number id.0 ≡ c
            → among number (holders_at after k) ≡ cond (option_map_or (same_key k) (with_key id.0 (slot_of key) (Some key) keys number (slot_of k)) false) 1 0
        counts k number true e true d =
            let same = eqb-true number id.0 d in
            let is = sym (laws.slots key k e) in
            let more = ap (among number) (here k e) ∙ among_more number (holders_at before k) id in
            let none = unheld k number same is in
            let one : mark (eqb id.0 number) ≡ 1 = ap mark (eq-eqb id.0 number (sym same)) in
            let has : cond (option_map_or (same_key k) (with_key id.0 (slot_of key) (Some key) keys number (slot_of k)) false) 1 0 ≡ 1 =
            ap (λ o. mark (option_map_or (same_key k) o false)) (with_here id.0 (slot_of key) (Some key) keys number (slot_of k) same is) ∙ ap mark (laws.turned key k e) in
            omega (arith, more, none, one, has)
        counts k number true e false d =
            let more = ap (among number) (here k e) ∙ among_more number (holders_at before k) id in
            let none : mark (eqb id.0 number) ≡ 0 = ap mark (ne_eqb id.0 number (λ same. eqb-false number id.0 d (sym same))) in
            let was = index.holders k number in
            let has = ap (λ o. mark (option_map_or (same_key k) o false)) (with_other_number id.0 (slot_of key) (Some key) keys number (slot_of k) d) in
            omega (arith, more, none, was, has)
        counts k number false e false d =
            ap (among number) (else k e) ∙ (index.holders k number
            ∙ sym (ap (λ o. mark (option_map_or (same_key k) o false)) (with_other_number id.0 (slot_of key) (Some key) keys number (slot_of k) d)))
        counts k number false e true d = ap (among number) (else k e) ∙ by (eqb (slot_of k) (slot_of key)) refl
          where
            by : (b : Bool) → eqb (slot_of k) (slot_of key) ≡ b
                → among number (holders_at before k) ≡ cond (option_map_or (same_key k) (with_key id.0 (slot_of key) (Some key) keys number (slot_of k)) false) 1 0
            by true s =
                let same = eqb-true number id.0 d in
                let is = eqb-true (slot_of k) (slot_of key) s in
                unheld k number same is
                ∙ sym (ap (λ o. mark (option_map_or (same_key k) o false)) (with_here id.0 (slot_of key) (Some key) keys number (slot_of k) same is) ∙ ap mark (apart_turned key k e))
            by false s =
                index.holders k number
                ∙ sym (ap (λ o. mark (option_map_or (same_key k) o false)) (with_other_slot id.0 (slot_of key) (Some key) keys number (slot_of k) s))

        slots : (number s : ℕ) (k : Key) (b : Bool) → eqb number id.0 ≡ b → (c : Bool) → eqb s (slot_of key) ≡ c
            → with_key id.0 (slot_of key) (Some key) keys number s ≡ Some k → slot_of k ≡ s
        slots number s k true e true d is =
            let same = eqb-true number id.0 e in
            let at = eqb-true s (slot_of key) d in
            ap slot_of (sym (same_Some key k (sym (with_here id.0 (slot_of key) (Some key) keys number s same at) ∙ is))) ∙ sym at
        slots number s k true e false d is = index.slots number s k (sym (with_other_slot id.0 (slot_of key) (Some key) keys number s d) ∙ is)
        slots number s k false e c d is = index.slots number s k (sym (with_other_number id.0 (slot_of key) (Some key) keys number s e) ∙ is)

    pub left : has_key keys id.0 key ≡ true
        → ((other : Key) → same_key key other ≡ true → holders_at after other ≡ without id (holders_at before other))
        → Indexes after (with_key id.0 (slot_of key) None keys) f
    left has here =
        record {
          holders = λ k number. counts k number (same_key key k) refl (eqb number id.0) refl;
          slots = λ number s k. slots number s k (eqb number id.0) refl (eqb s (slot_of key)) refl;
          outside = λ number s none. outside number s none (eqb number id.0) refl;
        }
      where
        was : (k : Key) × (keys id.0 (slot_of key) ≡ Some k) × (same_key key k ≡ true)
        was = in_slot (keys id.0 (slot_of key)) key has

        -- it held each key that is the same
        had : (k : Key) → same_key key k ≡ true → among id.0 (holders_at before k) ≡ 1
        had k e = ap (λ (o : Option Entry). among id.0 (option_map_or (λ e. e.nodes) o [])) (sym (laws.found before key k e)) ∙ held before keys f index key id.0 has

        counts : (k : Key) (number : ℕ) (b : Bool) → same_key key k ≡ b → (c : Bool) → eqb number id.0 ≡ c
            → among number (holders_at after k) ≡ cond (option_map_or (same_key k) (with_key id.0 (slot_of key) None keys number (slot_of k)) false) 1 0
        counts k number true e true d =
            let same = eqb-true number id.0 d in
            let is = sym (laws.slots key k e) in
            let one = had k e in
            let at = ap (λ n. among n (holders_at before k)) same in
            let less = among_less id (holders_at before k) (omega (arith, one)) number in
            let now = ap (among number) (here k e) in
            let it : mark (eqb id.0 number) ≡ 1 = ap mark (eq-eqb id.0 number (sym same)) in
            let none : cond (option_map_or (same_key k) (with_key id.0 (slot_of key) None keys number (slot_of k)) false) 1 0 ≡ 0 =
            ap (λ o. mark (option_map_or (same_key k) o false)) (with_here id.0 (slot_of key) None keys number (slot_of k) same is) in
            omega (arith, one, at, less, now, it, none)
        counts k number true e false d =
            let one = had k e in
            let less = among_less id (holders_at before k) (omega (arith, one)) number in
            let now = ap (among number) (here k e) in
            let none : mark (eqb id.0 number) ≡ 0 = ap mark (ne_eqb id.0 number (λ same. eqb-false number id.0 d (sym same))) in
            let was = index.holders k number in
            let has = ap (λ o. mark (option_map_or (same_key k) o false)) (with_other_number id.0 (slot_of key) None keys number (slot_of k) d) in
            omega (arith, less, now, none, was, has)
        counts k number false e false d =
            ap (among number) (else k e) ∙ (index.holders k number
            ∙ sym (ap (λ o. mark (option_map_or (same_key k) o false)) (with_other_number id.0 (slot_of key) None keys number (slot_of k) d)))
        counts k number false e true d = ap (among number) (else k e) ∙ by (eqb (slot_of k) (slot_of key)) refl
          where
            by : (b : Bool) → eqb (slot_of k) (slot_of key) ≡ b
                → among number (holders_at before k) ≡ cond (option_map_or (same_key k) (with_key id.0 (slot_of key) None keys number (slot_of k)) false) 1 0
            by true s =
                let same = eqb-true number id.0 d in
                let is = eqb-true (slot_of k) (slot_of key) s in
                index.holders k number
                ∙ (ap (λ o. mark (option_map_or (same_key k) o false)) (ap (λ n. keys n (slot_of k)) same ∙ (ap (λ s. keys id.0 s) is ∙ was.1))
                ∙ (ap mark differs
                ∙ sym (ap (λ o. mark (option_map_or (same_key k) o false)) (with_here id.0 (slot_of key) None keys number (slot_of k) same is))))
              where
                differs : same_key k was.0 ≡ false
                differs = not_both (same_key k was.0) (λ t. false≢true (sym e ∙ (laws.alike key was.0 k was.2 ∙ laws.turned k was.0 t)))
            by false s =
                index.holders k number
                ∙ sym (ap (λ o. mark (option_map_or (same_key k) o false)) (with_other_slot id.0 (slot_of key) None keys number (slot_of k) s))

        slots : (number s : ℕ) (k : Key) (b : Bool) → eqb number id.0 ≡ b → (c : Bool) → eqb s (slot_of key) ≡ c
            → with_key id.0 (slot_of key) None keys number s ≡ Some k → slot_of k ≡ s
        slots number s k true e true d is =
            absurd (none-some k (sym (with_here id.0 (slot_of key) None keys number s (eqb-true number id.0 e) (eqb-true s (slot_of key) d)) ∙ is))
        slots number s k true e false d is = index.slots number s k (sym (with_other_slot id.0 (slot_of key) None keys number s d) ∙ is)
        slots number s k false e c d is = index.slots number s k (sym (with_other_number id.0 (slot_of key) None keys number s e) ∙ is)

        outside : (number s : ℕ) → times number f ≡ 0 → (b : Bool) → eqb number id.0 ≡ b → with_key id.0 (slot_of key) None keys number s ≡ None
        outside number s none false e = with_other_number id.0 (slot_of key) None keys number s e ∙ index.outside number s none
        outside number s none true e =
            let same = eqb-true number id.0 e in
            let there = key_stands before keys f index id.0 key has in
            absurd (let at = ap (λ n. times n f) same in omega (arith, at, none, there))
