-- Keys that nodes hold before a change as well as after it need neither be left nor joined.
use Rattle.std.proofs.Common.{◌≡◌, ℕ, zero, suc, ◌+◌, Bool, true, false, ◌&&◌, ◌||◌, List, [], ◌∷◌, ◌++◌, take, drop, get_or, append-nil, Option, Some, None, refl, sym, ap, ap₂, ◌∙◌, arith, cond, eqb, length, ◌<◌}
use Rattle.std.specs.Option.{option_or}
use Rattle.std.proofs.lemmas.Bool.{eqb-true, eq-eqb, false≢true}
use Rattle.std.proofs.lemmas.Option.{none-some}
use Rattle.ystore.specs.Store.{same_key}
use Rattle.ystore_rows.specs.declared.row.NodeId.{NodeId}
use Rattle.ystore.specs.declared.key.Key as rust
use Rattle.yspec_play.specs.Over.{AlikeBut}
use Rattle.ylive_facts.specs.Keys.{Key, Holding, holdings, key_view}
use Rattle.ylive_facts.proofs.SameLemmas.{same_keys}
use Rattle.ylive_retell.specs.Assigned.{Assignment, is_at, has_at, key_in, AreDistinct}
use Rattle.ylive_retell.specs.Standing.{Every}
use Rattle.ylive_retell.specs.Staying.{is_same}
use Rattle.ylive_retell.specs.Unlike.{slot_in}
use Rattle.ylive_retell.proofs.EachLemmas.{every_first, every_second, every_join}
use Rattle.ylive_retell.proofs.KeyLemmas.{key_in-append}

both_true : (a b : Bool) → (a && b) ≡ true → (a ≡ true) × (b ≡ true)
both_true true b e = (refl, e)
both_true false b e = absurd (false≢true e)

both_false : (a b : Bool) → (a || b) ≡ false → (a ≡ false) × (b ≡ false)
both_false true b e = absurd (false≢true (sym e))
both_false false b e = (refl, e)

or_true : (a : Bool) → (a || true) ≡ true
or_true true = refl
or_true false = refl

or_false : (a : Bool) → (a || false) ≡ a
or_false true = refl
or_false false = refl

or_none : (o : Option Key) → option_or o None ≡ o
or_none None = refl
or_none (Some key) = refl

-- ---- pairs and their views

pub holdings_append : (xs ys : List (rust.Key × NodeId)) → holdings (xs ++ ys) ≡ holdings xs ++ holdings ys
holdings_append [] ys = refl
holdings_append (x ∷ xs) ys = ap (λ hs. (key_view x.0, x.1) ∷ hs) (holdings_append xs ys)

holdings_parts : (n : ℕ) (xs : List (rust.Key × NodeId)) → holdings xs ≡ holdings (take n xs) ++ holdings (drop n xs)
holdings_parts zero xs = refl
holdings_parts (suc n) [] = refl
holdings_parts (suc n) (x ∷ xs) = ap (λ hs. (key_view x.0, x.1) ∷ hs) (holdings_parts n xs)

-- those behind so many that others have too
pub alike_keys : (old new : List (rust.Key × NodeId)) (n : ℕ) (was now : List Holding) → holdings (take n old) ≡ holdings (take n new)
    → holdings old ≡ was → holdings new ≡ now → AlikeBut (holdings (drop n old)) (holdings (drop n new)) was now
alike_keys old new n was now same are_old are_new =
    record {
      front = holdings (take n old);
      back = [];
      old_is = sym are_old ∙ (holdings_parts n old ∙ ap (λ hs. holdings (take n old) ++ hs) (sym (append-nil (holdings (drop n old)))));
      new_is = sym are_new ∙ (holdings_parts n new ∙ ap₂ (λ (fs hs : List Holding). fs ++ hs) (sym same) (sym (append-nil (holdings (drop n new)))));
    }

-- one pair more
pub staying_more : (old new : List (rust.Key × NodeId)) (n : ℕ) (p q : rust.Key × NodeId) → n < length old → p ≡ get_or old n p
    → n < length new → q ≡ get_or new n q → is_same p q ≡ true → holdings (take n old) ≡ holdings (take n new)
    → holdings (take (n + 1) old) ≡ holdings (take (n + 1) new)
staying_more old new n p q within at_old within_new at_new alike same =
    one old n p within at_old
    ∙ (ap₂ (λ (hs : List Holding) (h : Holding). hs ++ h ∷ []) same
    (let both = both_true (eqb p.1.0 q.1.0) (same_key p.0 q.0) alike in
    ap₂ (λ (k : Key) (i : ℕ). (k, record { 0 = i })) ((same_keys p.0 q.0).0 both.1) (eqb-true p.1.0 q.1.0 both.0))
    ∙ sym (one new n q within_new at_new))
  where
    one : (xs : List (rust.Key × NodeId)) (m : ℕ) (x : rust.Key × NodeId) → m < length xs → x ≡ get_or xs m x
        → holdings (take (m + 1) xs) ≡ holdings (take m xs) ++ (key_view x.0, x.1) ∷ []
    one [] m x within at = absurd (omega (arith, within))
    one (y ∷ ys) zero x within at = ap (λ (p : rust.Key × NodeId). (key_view p.0, p.1) ∷ []) (sym at)
    one (y ∷ ys) (suc m) x within at =
        let next : suc m + 1 ≡ suc (m + 1) = omega arith in
        ap (λ k. holdings (take k (y ∷ ys))) next ∙ ap (λ hs. (key_view y.0, y.1) ∷ hs) (one ys m x (omega (arith, within)) at)

-- ---- whether a node has a key at a slot, among some and others

has_append : (xs ys : List Holding) (k s : ℕ) → has_at slot_in (xs ++ ys) k s ≡ (has_at slot_in xs k s || has_at slot_in ys k s)
has_append [] ys k s = refl
has_append (x ∷ xs) ys k s = by (is_at slot_in k s x) (has_append xs ys k s)
  where
    by : (b : Bool) → has_at slot_in (xs ++ ys) k s ≡ (has_at slot_in xs k s || has_at slot_in ys k s)
        → (b || has_at slot_in (xs ++ ys) k s) ≡ ((b || has_at slot_in xs k s) || has_at slot_in ys k s)
    by true rest = refl
    by false rest = rest

-- it has none there, and so none is found
none_found : (xs : List Holding) (k s : ℕ) → has_at slot_in xs k s ≡ false → key_in slot_in xs k s ≡ None
none_found [] k s e = refl
none_found (x ∷ xs) k s e =
    let both = both_false (is_at slot_in k s x) (has_at slot_in xs k s) e in
    ap (λ b. cond b (Some x.0) (key_in slot_in xs k s)) both.0 ∙ none_found xs k s both.1

pub none_there : (xs : List Holding) (k s : ℕ) → key_in slot_in xs k s ≡ None → has_at slot_in xs k s ≡ false
none_there [] k s e = refl
none_there (x ∷ xs) k s e = by (is_at slot_in k s x) (none_there xs k s) e
  where
    by : (b : Bool) → (key_in slot_in xs k s ≡ None → has_at slot_in xs k s ≡ false)
        → cond b (Some x.0) (key_in slot_in xs k s) ≡ None → (b || has_at slot_in xs k s) ≡ false
    by true rest some = absurd (none-some x.0 (sym some))
    by false rest none = rest none

-- what is found there is held
module _ (held : Assignment Key) where
  abbrev pub IsHeld : Holding → Type 0
  IsHeld p = held p.1.0 (slot_in p.0) ≡ Some p.0

  record Found (xs : List Holding) (k s : ℕ) : Type 0 where
    key : Key
    found : key_in slot_in xs k s ≡ Some key
    holds : held k s ≡ Some key

  found_at : (xs : List Holding) (k s : ℕ) → Every IsHeld xs → has_at slot_in xs k s ≡ true → Found xs k s
  found_at [] k s so e = absurd (false≢true e)
  found_at (x ∷ xs) k s so e = by (found_at xs k s so.1) (is_at slot_in k s x) refl
    where
      by : (has_at slot_in xs k s ≡ true → Found xs k s) → (b : Bool) → is_at slot_in k s x ≡ b → Found (x ∷ xs) k s
      by later true at =
          let both = both_true (eqb k x.1.0) (eqb s (slot_in x.0)) at in
          record {
            key = x.0;
            found = ap (λ b. cond b (Some x.0) (key_in slot_in xs k s)) at;
            holds = ap₂ (λ (m n : ℕ). held m n) (eqb-true k x.1.0 both.0) (eqb-true s (slot_in x.0) both.1) ∙ so.0;
          }
      by later false at =
          let rest = later (sym (ap (λ b. b || has_at slot_in xs k s) at) ∙ e) in
          record { key = rest.key; found = ap (λ b. cond b (Some x.0) (key_in slot_in xs k s)) at ∙ rest.found; holds = rest.holds }

-- ---- keys that are distinct

distinct_first : (xs ys : List Holding) → AreDistinct slot_in (xs ++ ys) → AreDistinct slot_in xs
distinct_first [] ys distinct = tt
distinct_first (x ∷ xs) ys distinct = (
  (both_false (has_at slot_in xs x.1.0 (slot_in x.0)) (has_at slot_in ys x.1.0 (slot_in x.0)) (sym (has_append xs ys x.1.0 (slot_in x.0)) ∙ distinct.0)).0,
  distinct_first xs ys distinct.1,
)

distinct_second : (xs ys : List Holding) → AreDistinct slot_in (xs ++ ys) → AreDistinct slot_in ys
distinct_second [] ys distinct = distinct
distinct_second (x ∷ xs) ys distinct = distinct_second xs ys distinct.1

-- where one has a key the other has none
apart_at : (xs ys : List Holding) (k s : ℕ) → AreDistinct slot_in (xs ++ ys) → has_at slot_in xs k s ≡ true → has_at slot_in ys k s ≡ false
apart_at [] ys k s distinct e = absurd (false≢true e)
apart_at (x ∷ xs) ys k s distinct e = by (apart_at xs ys k s distinct.1) (is_at slot_in k s x) refl
  where
    by : (has_at slot_in xs k s ≡ true → has_at slot_in ys k s ≡ false) → (b : Bool) → is_at slot_in k s x ≡ b → has_at slot_in ys k s ≡ false
    by later true at =
        let both = both_true (eqb k x.1.0) (eqb s (slot_in x.0)) at in
        ap₂ (λ (m n : ℕ). has_at slot_in ys m n) (eqb-true k x.1.0 both.0) (eqb-true s (slot_in x.0) both.1)
        ∙ (both_false (has_at slot_in xs x.1.0 (slot_in x.0)) (has_at slot_in ys x.1.0 (slot_in x.0)) (sym (has_append xs ys x.1.0 (slot_in x.0)) ∙ distinct.0)).1
    by later false at = later (sym (ap (λ b. b || has_at slot_in xs k s) at) ∙ e)

apart_back : (xs ys : List Holding) (k s : ℕ) → AreDistinct slot_in (xs ++ ys) → has_at slot_in ys k s ≡ true → has_at slot_in xs k s ≡ false
apart_back xs ys k s distinct e = by (has_at slot_in xs k s) refl
  where
    by : (b : Bool) → has_at slot_in xs k s ≡ b → b ≡ false
    by true there = absurd (false≢true (sym (apart_at xs ys k s distinct there) ∙ e))
    by false there = refl

-- ---- all, and those that don't stay

module _ (own front part back : List Holding) where
  abbrev pub whole : List Holding
  whole = own ++ (front ++ (part ++ back))

  abbrev pub stays_at : ℕ → ℕ → Bool
  stays_at k s = has_at slot_in front k s || has_at slot_in back k s

  pub every_part : (P : Holding → Type 0) → Every P whole → Every P (own ++ part)
  every_part P all =
      every_join P own part (every_first P own (front ++ (part ++ back)) all)
      (every_first P part back (every_second P front (part ++ back) (every_second P own (front ++ (part ++ back)) all)))

  pub every_front : (P : Holding → Type 0) → Every P whole → Every P front
  every_front P all = every_first P front (part ++ back) (every_second P own (front ++ (part ++ back)) all)

  pub every_back : (P : Holding → Type 0) → Every P whole → Every P back
  every_back P all = every_second P part back (every_second P front (part ++ back) (every_second P own (front ++ (part ++ back)) all))

  whole_at : (k s : ℕ) → has_at slot_in whole k s
      ≡ (has_at slot_in own k s || (has_at slot_in front k s || (has_at slot_in part k s || has_at slot_in back k s)))
  whole_at k s =
      has_append own (front ++ (part ++ back)) k s
      ∙ ap (λ b. has_at slot_in own k s || b)
      (has_append front (part ++ back) k s ∙ ap (λ b. has_at slot_in front k s || b) (has_append part back k s))

  whole_key : (k s : ℕ) → key_in slot_in whole k s
      ≡ option_or (key_in slot_in own k s) (option_or (key_in slot_in front k s) (option_or (key_in slot_in part k s) (key_in slot_in back k s)))
  whole_key k s =
      key_in-append own (front ++ (part ++ back)) k s
      ∙ ap (λ o. option_or (key_in slot_in own k s) o)
      (key_in-append front (part ++ back) k s ∙ ap (λ o. option_or (key_in slot_in front k s) o) (key_in-append part back k s))

  -- where no key stays
  pub same_at : (k s : ℕ) → stays_at k s ≡ false → has_at slot_in whole k s ≡ has_at slot_in (own ++ part) k s
  same_at k s none =
      let both = both_false (has_at slot_in front k s) (has_at slot_in back k s) none in
      whole_at k s
      ∙ (ap₂ (λ (a b : Bool). has_at slot_in own k s || (a || (has_at slot_in part k s || b))) both.0 both.1
      ∙ (ap (λ b. has_at slot_in own k s || b) (or_false (has_at slot_in part k s)) ∙ sym (has_append own part k s)))

  same_key_in : (k s : ℕ) → stays_at k s ≡ false → key_in slot_in whole k s ≡ key_in slot_in (own ++ part) k s
  same_key_in k s none =
      let both = both_false (has_at slot_in front k s) (has_at slot_in back k s) none in
      whole_key k s
      ∙ (ap₂ (λ (o p : Option Key). option_or (key_in slot_in own k s) (option_or o (option_or (key_in slot_in part k s) p)))
      (none_found front k s both.0) (none_found back k s both.1)
      ∙ (ap (λ o. option_or (key_in slot_in own k s) o) (or_none (key_in slot_in part k s)) ∙ sym (key_in-append own part k s)))

  module _ (distinct : AreDistinct slot_in whole) where
    inner : AreDistinct slot_in (front ++ (part ++ back))
    inner = distinct_second own (front ++ (part ++ back)) distinct

    last : AreDistinct slot_in (part ++ back)
    last = distinct_second front (part ++ back) inner

    pub distinct_part : AreDistinct slot_in (own ++ part)
    distinct_part = by own distinct
      where
        by : (xs : List Holding) → AreDistinct slot_in (xs ++ (front ++ (part ++ back))) → AreDistinct slot_in (xs ++ part)
        by [] d = distinct_first part back last
        by (x ∷ xs) d = (none x xs d.0, by xs d.1)
          where
            none : (x : Holding) (xs : List Holding) → has_at slot_in (xs ++ (front ++ (part ++ back))) x.1.0 (slot_in x.0) ≡ false
                → has_at slot_in (xs ++ part) x.1.0 (slot_in x.0) ≡ false
            none x xs e =
                let k = x.1.0 in let s = slot_in x.0 in
                let one = both_false (has_at slot_in xs k s) (has_at slot_in (front ++ (part ++ back)) k s) (sym (has_append xs (front ++ (part ++ back)) k s) ∙ e) in
                let two = both_false (has_at slot_in front k s) (has_at slot_in (part ++ back) k s) (sym (has_append front (part ++ back) k s) ∙ one.1) in
                let three = both_false (has_at slot_in part k s) (has_at slot_in back k s) (sym (has_append part back k s) ∙ two.1) in
                has_append xs part k s ∙ ap₂ (λ (a b : Bool). a || b) one.0 three.0

    -- where a key stays there is no other
    off_part : (k s : ℕ) → stays_at k s ≡ true → (has_at slot_in own k s ≡ false) × (has_at slot_in part k s ≡ false)
    off_part k s stays = by (has_at slot_in front k s) refl (has_at slot_in back k s) refl
      where
        by : (a : Bool) → has_at slot_in front k s ≡ a → (b : Bool) → has_at slot_in back k s ≡ b
            → (has_at slot_in own k s ≡ false) × (has_at slot_in part k s ≡ false)
        by true there b e = (
          apart_back own (front ++ (part ++ back)) k s distinct
              (has_append front (part ++ back) k s ∙ ap (λ c. c || has_at slot_in (part ++ back) k s) there),
          (both_false (has_at slot_in part k s) (has_at slot_in back k s)
              (sym (has_append part back k s) ∙ apart_at front (part ++ back) k s inner there)).0,
        )
        by false none true there = (
          apart_back own (front ++ (part ++ back)) k s distinct
              (has_append front (part ++ back) k s
              ∙ (ap (λ c. has_at slot_in front k s || c) (has_append part back k s ∙ (ap (λ c. has_at slot_in part k s || c) there ∙ or_true (has_at slot_in part k s)))
              ∙ or_true (has_at slot_in front k s))),
          apart_back part back k s last there,
        )
        by false none false other = absurd (false≢true (sym (ap₂ (λ (a b : Bool). a || b) none other) ∙ stays))

    pub off_all : (k s : ℕ) → stays_at k s ≡ true → has_at slot_in (own ++ part) k s ≡ false
    off_all k s stays =
        let off = off_part k s stays in has_append own part k s ∙ ap₂ (λ (a b : Bool). a || b) off.0 off.1

    -- a key that is there doesn't stay
    pub not_staying : (k s : ℕ) → has_at slot_in (own ++ part) k s ≡ true → stays_at k s ≡ false
    not_staying k s there = by (stays_at k s) refl
      where
        by : (b : Bool) → stays_at k s ≡ b → b ≡ false
        by true stays = absurd (false≢true (sym (off_all k s stays) ∙ there))
        by false none = refl

-- what isn't among all isn't among what stays
pub off_way : (all front part back : List Holding) → all ≡ front ++ (part ++ back) → (k s : ℕ) → has_at slot_in all k s ≡ false
    → (has_at slot_in front k s || has_at slot_in back k s) ≡ false
off_way all front part back is k s none =
    let one = both_false (has_at slot_in front k s) (has_at slot_in (part ++ back) k s)
    (sym (has_append front (part ++ back) k s) ∙ (ap (λ (hs : List Holding). has_at slot_in hs k s) (sym is) ∙ none)) in
    let two = both_false (has_at slot_in part k s) (has_at slot_in back k s) (sym (has_append part back k s) ∙ one.1) in
    ap₂ (λ (a b : Bool). a || b) one.0 two.1

-- ---- what is held once some are left and others joined

-- each of some is there
pub all_there : (xs : List Holding) → Every (λ p. has_at slot_in xs p.1.0 (slot_in p.0) ≡ true) xs
all_there [] = tt
all_there (x ∷ xs) = (
  ap (λ b. b || has_at slot_in xs x.1.0 (slot_in x.0)) (itself x),
  more xs (all_there xs),
)
  where
    itself : (x : Holding) → is_at slot_in x.1.0 (slot_in x.0) x ≡ true
    itself x = ap₂ (λ (a b : Bool). a && b) (eq-eqb x.1.0 x.1.0 refl) (eq-eqb (slot_in x.0) (slot_in x.0) refl)

    more : (ys : List Holding) → Every (λ p. has_at slot_in xs p.1.0 (slot_in p.0) ≡ true) ys → Every (λ p. has_at slot_in (x ∷ xs) p.1.0 (slot_in p.0) ≡ true) ys
    more [] all = tt
    more (y ∷ ys) all = (
      ap (λ b. is_at slot_in y.1.0 (slot_in y.0) x || b) all.0 ∙ or_true (is_at slot_in y.1.0 (slot_in y.0) x),
      more ys all.1,
    )

module _ (held : Assignment Key) (gone come front back changed changed_then : List Holding)
    (distinct_gone : AreDistinct slot_in (whole gone front changed back)) (distinct_come : AreDistinct slot_in (whole come front changed_then back)) where
  pub same_then : Every (IsHeld held) (whole gone front changed back) → (k s : ℕ)
      → option_or (key_in slot_in (come ++ changed_then) k s) (cond (has_at slot_in (gone ++ changed) k s) None (held k s))
      ≡ option_or (key_in slot_in (whole come front changed_then back) k s) (cond (has_at slot_in (whole gone front changed back) k s) None (held k s))
  same_then all k s = by (stays_at gone front changed back k s) refl
    where
      by : (b : Bool) → stays_at gone front changed back k s ≡ b
          → option_or (key_in slot_in (come ++ changed_then) k s) (cond (has_at slot_in (gone ++ changed) k s) None (held k s))
          ≡ option_or (key_in slot_in (whole come front changed_then back) k s) (cond (has_at slot_in (whole gone front changed back) k s) None (held k s))
      by false none =
          ap₂ (λ (o : Option Key) (b : Bool). option_or o (cond b None (held k s))) (sym (same_key_in come front changed_then back k s none))
          (sym (same_at gone front changed back k s none))
      by true stays =
          ap₂ (λ (o : Option Key) (b : Bool). option_or o (cond b None (held k s)))
          (none_found (come ++ changed_then) k s (off_all come front changed_then back distinct_come k s stays))
          (off_all gone front changed back distinct_gone k s stays)
          ∙ found (has_at slot_in front k s) refl (has_at slot_in back k s) refl
        where
          off : (has_at slot_in come k s ≡ false) × (has_at slot_in changed_then k s ≡ false)
          off = off_part come front changed_then back distinct_come k s stays

          found : (a : Bool) → has_at slot_in front k s ≡ a → (b : Bool) → has_at slot_in back k s ≡ b
              → held k s ≡ option_or (key_in slot_in (whole come front changed_then back) k s) (cond (has_at slot_in (whole gone front changed back) k s) None (held k s))
          found true there b e =
              let f = found_at held front k s (every_front gone front changed back (IsHeld held) all) there in
              f.holds
              ∙ sym (ap (λ o. option_or o (cond (has_at slot_in (whole gone front changed back) k s) None (held k s)))
              (whole_key come front changed_then back k s
              ∙ ap₂ (λ (o p : Option Key). option_or o (option_or p (option_or (key_in slot_in changed_then k s) (key_in slot_in back k s)))) (none_found come k s off.0) f.found))
          found false none true there =
              let f = found_at held back k s (every_back gone front changed back (IsHeld held) all) there in
              f.holds
              ∙ sym (ap (λ o. option_or o (cond (has_at slot_in (whole gone front changed back) k s) None (held k s)))
              (whole_key come front changed_then back k s
              ∙ (ap₂ (λ (o p : Option Key). option_or o (option_or p (option_or (key_in slot_in changed_then k s) (key_in slot_in back k s)))) (none_found come k s off.0) (none_found front k s none)
              ∙ ap₂ (λ (o p : Option Key). option_or o p) (none_found changed_then k s off.1) f.found)))
          found false none false other = absurd (false≢true (sym (ap₂ (λ (a b : Bool). a || b) none other) ∙ stays))

  -- those that come are free, where all are once all have left
  pub free_then : Every (λ p. (s : ℕ) → cond (has_at slot_in (whole gone front changed back) p.1.0 s) None (held p.1.0 s) ≡ None) (whole come front changed_then back)
      → Every (λ p. cond (has_at slot_in (gone ++ changed) p.1.0 (slot_in p.0)) None (held p.1.0 (slot_in p.0)) ≡ None) (come ++ changed_then)
  free_then all =
      by (come ++ changed_then) (all_there (come ++ changed_then))
      (every_part come front changed_then back (λ p. (s : ℕ) → cond (has_at slot_in (whole gone front changed back) p.1.0 s) None (held p.1.0 s) ≡ None) all)
    where
      by : (xs : List Holding) → Every (λ p. has_at slot_in (come ++ changed_then) p.1.0 (slot_in p.0) ≡ true) xs
          → Every (λ p. (s : ℕ) → cond (has_at slot_in (whole gone front changed back) p.1.0 s) None (held p.1.0 s) ≡ None) xs
          → Every (λ p. cond (has_at slot_in (gone ++ changed) p.1.0 (slot_in p.0)) None (held p.1.0 (slot_in p.0)) ≡ None) xs
      by [] there free = tt
      by (x ∷ xs) there free = (
        ap (λ b. cond b None (held x.1.0 (slot_in x.0)))
            (sym (same_at gone front changed back x.1.0 (slot_in x.0) (not_staying come front changed_then back distinct_come x.1.0 (slot_in x.0) there.0)))
            ∙ free.0 (slot_in x.0),
        by xs there.1 free.1,
      )
