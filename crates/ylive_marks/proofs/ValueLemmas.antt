-- All nodes that refer to a value are judged anew.
use Rattle.std.proofs.Common.{◌≡◌, ℕ, zero, suc, ◌+◌, ◌-◌, ◌^◌, ◌<◌, ◌≤◌, min, Bool, true, false, ◌&&◌, ◌||◌, List, [], ◌∷◌, ◌++◌, length, take, slice_get, Option, Some, None, is_some, option_map, refl, sym, ap, ◌∙◌, arith, subst, cond, eqb, ltb, ◌*◌}
use Rattle.std.specs.Prelude.{unwrap_or}
use Rattle.std.specs.Option.{option_map_or}
use Rattle.std.proofs.lemmas.Bool.{eqb-true, eqb-false, eq-eqb, ne_eqb, lt-ltb, le-ltb, false≢true}
use Rattle.std.proofs.lemmas.Option.{same_Some, none-some}
use Rattle.ystore.specs.Held.{Told, with_judged}
use Rattle.ystore.specs.Entries.{Entry, without_instance}
use Rattle.ystore.specs.Store.{entry_at, holders_at, instances_at, same_row, same_key, reads, total_at}
use Rattle.ystore_rows.specs.declared.row.NodeId.{NodeId}
use Rattle.ystore_rows.specs.declared.row.Row.{Row}
use Rattle.ystore_rows.specs.declared.row.Row.TheVariants.{Top, Below}
use Rattle.ystore.specs.declared.key.Key.{Key}
use Rattle.ystore.specs.declared.record.Judged.{Judged}
use Rattle.ystore.specs.declared.record.Judged.TheVariants.{Right, Missing}
use Rattle.ystore.specs.declared.nodes.Nodes.{Nodes}
use Rattle.ystore_tree.specs.Hanging.{Branches, times}
use Rattle.ystore_tree.specs.Parts.{OnlyReads}
use Rattle.ylive_marks.specs.Totals.{ChangesTold, IsTree, OnlyFaults, StandsIn, Totals, is_told, judged_at, told_at}
use Rattle.ylive_marks.specs.Keys.{AreKeys, Agrees, ChangesAt, ChangesKey, Follows, Indexes, IsJudged, Keys, Tells, among, flag_of, has_key, is_holder, is_missing, is_texts, judged_by, slot_for, slot_of, wrong_of, judging}
use Rattle.ylive_marks.proofs.KeyLemmas.{found_alike, found_still, found_value, texts_alike}
use Rattle.ylive_marks.proofs.WayLemmas.{not_both, not_this}
use Rattle.ylive_marks.proofs.ClimbLemmas.{read_told}
use Rattle.ylive_marks.proofs.TotalLemmas.{mark}
use Rattle.ylive_marks.proofs.IndexLemmas.{among-cons, among_more, held, held_slot, holders_else, holders_here, holds, in_slot, key_stands}
use Rattle.ylive_marks.proofs.FellowLemmas.{shared_same, told_where}
use Rattle.ylive_marks.proofs.JoinLemmas.{Enters, entered_told, entered_totals, entered_tree, judged_else, judged_new, key_changed, own_judged, same_still, told_since, untouched}

-- ---- the nodes so far

take_one : (xs : List NodeId) (p : ℕ) (id : NodeId) → Some id ≡ slice_get xs p → take (suc p) xs ≡ take p xs ++ id ∷ []
take_one [] p id e = absurd (none-some id (sym e))
take_one (x ∷ xs) zero id e = ap (λ n. n ∷ []) (sym (same_Some id x e))
take_one (x ∷ xs) (suc p) id e = ap (λ ys. x ∷ ys) (take_one xs p id e)

no_place : (xs : List NodeId) (p : ℕ) → None ≡ slice_get xs p → p < length xs → ⊥
no_place [] p e less = omega (arith, less)
no_place (x ∷ xs) zero e less = none-some x e
no_place (x ∷ xs) (suc p) e less = no_place xs p e (omega (arith, less))

take_whole : (xs : List NodeId) (p : ℕ) → length xs ≤ p → take p xs ≡ xs
take_whole [] zero less = refl
take_whole [] (suc p) less = refl
take_whole (x ∷ xs) zero less = absurd (omega (arith, less))
take_whole (x ∷ xs) (suc p) less = ap (λ ys. x ∷ ys) (take_whole xs p (omega (arith, less)))

take_few : (xs : List NodeId) (p k : ℕ) → among k (take p xs) ≤ among k xs
take_few [] zero k = omega arith
take_few [] (suc p) k = omega arith
take_few (x ∷ xs) zero k = omega arith
take_few (x ∷ xs) (suc p) k =
    let rest = take_few xs p k in
    let one : among k (take (suc p) (x ∷ xs)) ≡ mark (eqb x.0 k) + among k (take p xs) = among-cons k x (take p xs) in
    let whole = among-cons k x xs in
    omega (arith, rest, one, whole)

holder_more : (xs : List NodeId) (id : NodeId) (row : Row) → is_holder (xs ++ id ∷ []) row ≡ (is_holder xs row || same_row (Below id) row)
holder_more xs id Top = refl
holder_more xs id (Below x) = by (eqb id.0 x.0) refl
  where
    or_true : (a : Bool) → (a || true) ≡ true
    or_true true = refl
    or_true false = refl

    or_false : (a : Bool) → (a || false) ≡ a
    or_false true = refl
    or_false false = refl

    by : (b : Bool) → eqb id.0 x.0 ≡ b → ltb 0 (among x.0 (xs ++ id ∷ [])) ≡ (ltb 0 (among x.0 xs) || eqb id.0 x.0)
    by true e =
        let more = among_more x.0 xs id in let one = ap mark e in
        lt-ltb 0 (among x.0 (xs ++ id ∷ [])) (omega (arith, more, one))
        ∙ sym (ap (λ b. ltb 0 (among x.0 xs) || b) e ∙ or_true (ltb 0 (among x.0 xs)))
    by false e =
        let more = among_more x.0 xs id in let none : mark (eqb id.0 x.0) ≡ 0 = ap mark e in
        let same : among x.0 (xs ++ id ∷ []) ≡ among x.0 xs = omega (arith, more, none) in
        ap (ltb 0) same ∙ sym (ap (λ b. ltb 0 (among x.0 xs) || b) e ∙ or_false (ltb 0 (among x.0 xs)))

-- ---- the loop

module _ (j : Judged) (first : Nodes) (xs : List NodeId) where
  pub none_told : (now : Nodes) → OnlyReads first now → ChangesAt (is_holder (take 0 xs)) (with_judged j) first now
  none_told now reads Top = read_told first now reads Top
  none_told now reads (Below id) = read_told first now reads (Below id)

  judged_twice : (o : Option Told) → option_map (with_judged j) (option_map (with_judged j) o) ≡ option_map (with_judged j) o
  judged_twice (Some t) = refl
  judged_twice None = refl

  pub one_told : (p : ℕ) (id : NodeId) (now read next : Nodes) → Some id ≡ slice_get xs p → OnlyReads now read → ChangesTold (Below id) (with_judged j) read next
      → ChangesAt (is_holder (take p xs)) (with_judged j) first now → ChangesAt (is_holder (take (p + 1) xs)) (with_judged j) first next
  one_told p id now read next is reads told so row =
      told_where (Below id) (with_judged j) read next told row
      ∙ (ap (λ o. cond (same_row (Below id) row) (option_map (with_judged j) o) o) (read_told now read reads row ∙ so row)
      ∙ (by (is_holder (take p xs) row) (same_row (Below id) row) (told_at first row)
      ∙ ap (λ b. cond b (option_map (with_judged j) (told_at first row)) (told_at first row)) (sym more)))
    where
      more : is_holder (take (p + 1) xs) row ≡ (is_holder (take p xs) row || same_row (Below id) row)
      more =
          let next : p + 1 ≡ suc p = omega arith in
          ap (λ k. is_holder (take k xs) row) next ∙ (ap (λ ys. is_holder ys row) (take_one xs p id is) ∙ holder_more (take p xs) id row)

      by : (a c : Bool) (o : Option Told) → cond c (option_map (with_judged j) (cond a (option_map (with_judged j) o) o)) (cond a (option_map (with_judged j) o) o)
          ≡ cond (a || c) (option_map (with_judged j) o) o
      by true true o = judged_twice o
      by true false o = refl
      by false true o = refl
      by false false o = refl

  pub all_told_so : (p : ℕ) (now : Nodes) → length xs ≤ p → ChangesAt (is_holder (take p xs)) (with_judged j) first now → ChangesAt (is_holder xs) (with_judged j) first now
  all_told_so p now past so = subst (λ ys. ChangesAt (is_holder ys) (with_judged j) first now) (take_whole xs p past) so

  -- a node that comes but once isn't judged yet where it stands
  pub not_yet : (p : ℕ) (id : NodeId) (now : Nodes) → Some id ≡ slice_get xs p → among id.0 xs ≤ 1 → ChangesAt (is_holder (take p xs)) (with_judged j) first now
      → judged_at now id ≡ judged_at first id
  not_yet p id now is once so =
      judged_else (is_holder (take p xs)) j first now so id
      (le-ltb 0 (among id.0 (take p xs))
      (let few = take_few xs (suc p) id.0 in
      let more = ap (among id.0) (take_one xs p id is) ∙ among_more id.0 (take p xs) id in
      let one : mark (eqb id.0 id.0) ≡ 1 = ap mark (eq-eqb id.0 id.0 refl) in
      omega (arith, few, more, one, once)))

  pub there_is : (p : ℕ) (id : NodeId) → Some id ≡ slice_get xs p → 1 ≤ among id.0 xs
  there_is p id is =
      let few = take_few xs (suc p) id.0 in
      let more = ap (among id.0) (take_one xs p id is) ∙ among_more id.0 (take p xs) id in
      let one : mark (eqb id.0 id.0) ≡ 1 = ap mark (eq-eqb id.0 id.0 refl) in
      omega (arith, few, more, one)

pub past_all : (xs : List NodeId) (p : ℕ) → None ≡ slice_get xs p → length xs ≤ p
past_all [] p e = omega arith
past_all (x ∷ xs) zero e = absurd (none-some x e)
past_all (x ∷ xs) (suc p) e = let rest = past_all xs p e in omega (arith, rest)

-- ---- a value

entry_held : (o : Option Entry) (k : ℕ) → 1 ≤ among k (option_map_or (λ e. e.nodes) o []) → is_some o ≡ true
entry_held (Some e) k some = refl
entry_held None k some = absurd (omega (arith, some))

module _ (laws : AreKeys) (key : Key) (change : Entry → Entry) (step : ℕ → ℕ) (keys : Keys) (f : Branches) (first second third : Nodes) (only : OnlyFaults second third)
    (entered : Enters key change first second) (tree : IsTree first f) (agrees : Agrees first keys f) (all : Totals first f)
    (same_nodes : (e : Entry) → (change e).nodes ≡ e.nodes) (steps : (e : Entry) → (change e).instances ≡ step e.instances)
    (is_value : flag_of key ≡ None) (not_texts : is_texts key ≡ false) where
  change_is : ChangesKey key change first third
  change_is = key_changed key change first second third entered only

  slot_is : slot_of key ≡ 0
  slot_is = ap slot_for is_value

  holders_stay : (other : Key) → holders_at third other ≡ holders_at first other
  holders_stay other = by (same_key key other) refl
    where
      by : (b : Bool) → same_key key other ≡ b → holders_at third other ≡ holders_at first other
      by true e = holders_here laws key change first third change_is.changed change_is.others (λ ids. ids) same_nodes (λ none. refl) other e
      by false e = holders_else laws key change first third change_is.changed change_is.others other e

  holders_second : holders_at second key ≡ holders_at first key
  holders_second = sym (ap (λ o. option_map_or (λ e. e.nodes) o []) (only.entries key)) ∙ holders_stay key

  index : Indexes third keys f
  index =
      record {
        holders = λ k number. ap (among number) (holders_stay k) ∙ agrees.index.holders k number;
        slots = agrees.index.slots;
        outside = agrees.index.outside;
      }

  -- a node that holds the key is judged by it
  judged_was : (x : NodeId) → has_key keys x.0 key ≡ true → judged_at first x ≡ Some (judged_by (instances_at first key))
  judged_was x has =
      let slot = in_slot (keys x.0 (slot_of key)) key has in
      subst (λ o. IsJudged first o (judged_at first x)) (ap (keys x.0) (sym slot_is) ∙ slot.1) (agrees.tells.judged x (key_stands first keys f agrees.index x.0 key has))
      ∙ ap (λ n. Some (judged_by n)) (sym (found_alike first key slot.0 slot.2 (laws.found first key slot.0 slot.2)) ∙ found_value first key not_texts)

  pub holder_is : (x : NodeId) (old : Judged) → judged_by (instances_at first key) ≡ old → 1 ≤ among x.0 (holders_at second key)
      → StandsIn (Below x) f × (among x.0 (holders_at second key) ≤ 1) × (judged_at second x ≡ Some old)
  holder_is x old is some =
      let there : 1 ≤ among x.0 (holders_at first key) = subst (λ ids. 1 ≤ among x.0 ids) holders_second some in
      let has = holds first keys f agrees.index key x.0 there in (
        key_stands first keys f agrees.index x.0 key has,
        (let one = held first keys f agrees.index key x.0 has in let same = ap (among x.0) holders_second in omega (arith, one, same)),
        ap (option_map (λ t. t.judged)) (entered_told key change first second entered (Below x)) ∙ (judged_was x has ∙ ap Some is),
      )

  abbrev touched_if : Bool → Row → Bool
  touched_if b row = b && is_holder (holders_at second key) row

  pub valued : (b : Bool) (j : Judged) → cond b j (judged_by (instances_at first key)) ≡ judged_by (step (instances_at first key)) → wrong_of j ≡ None
      → ChangesAt (λ row. b && is_holder (holders_at second key) row) (with_judged j) second third
      → (IsTree second f → Totals second f → Totals third f) → reads second ≤ reads first + 1
      → (IsTree second f → ((x : NodeId) → 1 ≤ among x.0 (holders_at second key) → StandsIn (Below x) f) → (reads third + 1 ≤ reads second + judging b (holders_at second key) f) × ((y : NodeId) → times y.0 f ≡ 0 → total_at third (Below y) ≡ total_at second (Below y)))
      → Follows (judging b (holders_at first key) f) keys f first third
  valued b j good not_wrong told totals few climbs =
      record {
        agrees = record { index = index; tells = tells };
        totals = totals (entered_tree key change first second entered f tree) (entered_totals key change first second entered f all);
        own = own_judged (touched_if b) j first third since not_wrong own_right;
        reads =
            let more = subst (λ (ids : List NodeId). reads third + 1 ≤ reads second + judging b ids f) holders_second
            (climbs (entered_tree key change first second entered f tree) (λ x some. (holder_is x (judged_by (instances_at first key)) refl some).0)).0 in
            omega (arith, few, more);
        totals_beside = λ y none. (climbs (entered_tree key change first second entered f tree) (λ x some. (holder_is x (judged_by (instances_at first key)) refl some).0)).1 y none ∙ ap (λ o. option_map_or (λ h. h.total) o 0) (entered.held (Below y));
        top = untouched (touched_if b) (with_judged j) first third since Top (not_this b);
        beside = λ x none. untouched (touched_if b) (with_judged j) first third since (Below x) (not_both (touched_if b (Below x)) (λ t.
            absurd (let there = key_stands first keys f agrees.index x.0 key (touched_holds x t) in omega (arith, there, none))));
      }
    where
      and_second : (a c : Bool) → (a && c) ≡ true → c ≡ true
      and_second true c e = e
      and_second false c e = absurd (false≢true e)

      since : ChangesAt (touched_if b) (with_judged j) first third
      since = told_since (touched_if b) (with_judged j) first second third (entered_told key change first second entered) told

      touched_holds : (x : NodeId) → touched_if b (Below x) ≡ true → has_key keys x.0 key ≡ true
      touched_holds x t = by (among x.0 (holders_at second key)) refl
        where
          by : (k : ℕ) → among x.0 (holders_at second key) ≡ k → has_key keys x.0 key ≡ true
          by zero e = absurd (false≢true (sym (ap (ltb 0) e) ∙ and_second b (ltb 0 (among x.0 (holders_at second key))) t))
          by (suc k) e = holds first keys f agrees.index key x.0 (let same = ap (among x.0) holders_second in omega (arith, e, same))

      own_right : (row : Row) → touched_if b row ≡ true → option_map (λ t. wrong_of t.judged) (told_at first row) ≡ Some None
      own_right Top t = absurd (false≢true (and_second b false t))
      own_right (Below x) t = by (told_at first (Below x)) (judged_was x (touched_holds x t)) ∙ right (eqb (instances_at first key) 0)
        where
          by : (o : Option Told) → option_map (λ t. t.judged) o ≡ Some (judged_by (instances_at first key))
              → option_map (λ t. wrong_of t.judged) o ≡ Some (wrong_of (judged_by (instances_at first key)))
          by (Some t) e = ap (option_map wrong_of) e
          by None e = absurd (none-some (judged_by (instances_at first key)) e)

          right : (c : Bool) → Some (wrong_of (cond c Missing Right)) ≡ Some None
          right true = refl
          right false = refl

      not_touched : (x : NodeId) → has_key keys x.0 key ≡ false → touched_if b (Below x) ≡ false
      not_touched x none = not_both (touched_if b (Below x)) (λ t. false≢true (sym none ∙ touched_holds x t))

      touched_is : (x : NodeId) → has_key keys x.0 key ≡ true → touched_if b (Below x) ≡ b
      touched_is x has =
          ap (λ c. b && c) (lt-ltb 0 (among x.0 (holders_at second key))
          (let one = held first keys f agrees.index key x.0 has in let same = ap (among x.0) holders_second in omega (arith, one, same)))
          ∙ and_true b
        where
          and_true : (c : Bool) → (c && true) ≡ c
          and_true true = refl
          and_true false = refl

      instances_else : (k : Key) → same_key key k ≡ false → instances_at third k ≡ instances_at first k
      instances_else k e = ap (λ o. option_map_or (λ e. e.instances) o 0) (change_is.others k e)

      instances_here : (k : Key) → same_key key k ≡ true → is_some (entry_at first key) ≡ true → instances_at third k ≡ step (instances_at first key)
      instances_here k e there =
          ap (λ o. option_map_or (λ e. e.instances) o 0) (sym (laws.found third key k e) ∙ change_is.changed) ∙ by (entry_at first key) there
        where
          by : (o : Option Entry) → is_some o ≡ true → option_map_or (λ e. e.instances) (option_map change o) 0 ≡ step (option_map_or (λ e. e.instances) o 0)
          by (Some e) there = steps e
          by None there = absurd (false≢true there)

      stays_judged : (x : NodeId) (o : Option Key) → has_key keys x.0 key ≡ false → ((k : Key) → o ≡ Some k → instances_at third k ≡ instances_at first k)
          → IsJudged first o (judged_at first x) → IsJudged third o (judged_at third x)
      stays_judged x (Some k) none same is =
          judged_else (touched_if b) j first third since x (not_touched x none) ∙ (is ∙ ap (λ n. Some (judged_by n)) (sym (found_still first third k (same k refl))))
      stays_judged x None none same is = ap (λ j. option_map_or is_missing j false) (judged_else (touched_if b) j first third since x (not_touched x none)) ∙ is

      judged_now : (x : NodeId) → has_key keys x.0 key ≡ true → judged_at third x ≡ Some (judged_by (step (instances_at first key)))
      judged_now x has = by b refl ∙ ap Some good
        where
          by : (c : Bool) → b ≡ c → judged_at third x ≡ Some (cond b j (judged_by (instances_at first key)))
          by true c = judged_new (touched_if b) j first third since x (judged_by (instances_at first key)) (touched_is x has ∙ c) (judged_was x has) ∙ sym (ap (λ d. Some (cond d j (judged_by (instances_at first key)))) c)
          by false c = judged_else (touched_if b) j first third since x (touched_is x has ∙ c) ∙ (judged_was x has ∙ sym (ap (λ d. Some (cond d j (judged_by (instances_at first key)))) c))

      judged : (x : NodeId) → 0 < times x.0 f → (c : Bool) → has_key keys x.0 key ≡ c → IsJudged third (keys x.0 0) (judged_at third x)
      judged x there true has =
          let slot = in_slot (keys x.0 (slot_of key)) key has in
          let one = held first keys f agrees.index key x.0 has in
          subst (λ o. IsJudged third o (judged_at third x)) (sym (ap (keys x.0) (sym slot_is) ∙ slot.1))
          (judged_now x has ∙ ap (λ n. Some (judged_by n)) (sym (found_value third slot.0 (sym (texts_alike key slot.0 slot.2) ∙ not_texts)
          ∙ instances_here slot.0 slot.2 (entry_held (entry_at first key) x.0 (omega (arith, one))))))
      judged x there false none =
          stays_judged x (keys x.0 0) none
          (λ k e. instances_else k (not_both (same_key key k) (λ same. false≢true (sym none ∙ held_slot first keys f agrees.index x.0 0 key k e same slot_is))))
          (agrees.tells.judged x there)

      tells : Tells third keys f
      tells =
          record {
            flags = λ x v there.
                ap (λ bs. unwrap_or (slice_get bs v) false) (same_still (touched_if b) j first third since x)
                ∙ (agrees.tells.flags x v there ∙ sym (shared_same first third keys f (keys x.0 (suc v)) (λ k e. holders_stay k)));
            wide = λ x v k e. let was = agrees.tells.wide x v k e in let long = ap length (same_still (touched_if b) j first third since x) in omega (arith, was, long);
            judged = λ x there. judged x there (has_key keys x.0 key) refl;
          }

-- ---- reads between

pub same_holders : (first now : Nodes) (key : Key) → OnlyFaults first now → holders_at now key ≡ holders_at first key
same_holders first now key only = ap (λ o. option_map_or (λ e. e.nodes) o []) (only.entries key)

pub read_further : (j : Judged) (first now read : Nodes) (xs : List NodeId) → OnlyReads now read → ChangesAt (is_holder xs) (with_judged j) first now
    → ChangesAt (is_holder xs) (with_judged j) first read
read_further j first now read xs reads so row = read_told now read reads row ∙ so row

pub was_told : (found : Bool) (now read : Nodes) (id : NodeId) → OnlyReads now read → judged_at now id ≡ Some (cond found Missing Right)
    → option_map is_told (judged_at read id) ≡ Some found
was_told found now read id reads was = ap (option_map is_told) (ap (option_map (λ t. t.judged)) (read_told now read reads (Below id)) ∙ was) ∙ by found
  where
    by : (c : Bool) → option_map is_told (Some (cond c Missing Right)) ≡ Some c
    by true = refl
    by false = refl

-- ---- one more, one less

pub first_one : (n : ℕ) → cond (eqb n 0) Right (judged_by n) ≡ judged_by (min (n + 1) (2 ^ 64 - 1))
first_one n = by (eqb n 0) refl
  where
    more : eqb (min (n + 1) (2 ^ 64 - 1)) 0 ≡ false
    more = ne_eqb (min (n + 1) (2 ^ 64 - 1)) 0 (λ e. absurd (omega (arith, e)))

    by : (b : Bool) → eqb n 0 ≡ b → cond (eqb n 0) Right (cond (eqb n 0) Missing Right) ≡ cond (eqb (min (n + 1) (2 ^ 64 - 1)) 0) Missing Right
    by true e = ap (λ c. cond c Right (cond c Missing Right)) e ∙ sym (ap (λ c. cond c Missing Right) more)
    by false e = ap (λ c. cond c Right (cond c Missing Right)) e ∙ sym (ap (λ c. cond c Missing Right) more)

pub last_one : (n : ℕ) → 1 ≤ n → cond (eqb (n - 1) 0) Missing (judged_by n) ≡ judged_by (n - 1)
last_one n some = by (eqb (n - 1) 0) refl
  where
    not_none : eqb n 0 ≡ false
    not_none = ne_eqb n 0 (λ e. absurd (omega (arith, e, some)))

    by : (b : Bool) → eqb (n - 1) 0 ≡ b → cond (eqb (n - 1) 0) Missing (cond (eqb n 0) Missing Right) ≡ cond (eqb (n - 1) 0) Missing Right
    by b e = ap (λ c. cond (eqb (n - 1) 0) Missing (cond c Missing Right)) not_none

pub one_less : (first taken : Nodes) (key : Key) → Enters key without_instance first taken → instances_at taken key ≡ instances_at first key - 1
one_less first taken key entered = ap (λ o. option_map_or (λ e. e.instances) o 0) entered.changed ∙ by (entry_at first key)
  where
    by : (o : Option Entry) → option_map_or (λ e. e.instances) (option_map without_instance o) 0 ≡ option_map_or (λ e. e.instances) o 0 - 1
    by (Some e) = refl
    by None = refl

pub one_is : (n : ℕ) → 1 ≤ n → eqb (n - 1) 0 ≡ eqb n 1
one_is n some = by (eqb n 1) refl
  where
    by : (b : Bool) → eqb n 1 ≡ b → eqb (n - 1) 0 ≡ eqb n 1
    by true e = eq-eqb (n - 1) 0 (let is = eqb-true n 1 e in omega (arith, is)) ∙ sym e
    by false e = ne_eqb (n - 1) 0 (λ same. eqb-false n 1 e (omega (arith, same, some))) ∙ sym e

-- ---- reads of the loop

pub loop_reads : (now read next start p deep : ℕ) → now ≤ start + (1 + p * (1 + deep)) → read ≡ now + 1 → next ≤ read + deep → next ≤ start + (1 + (p + 1) * (1 + deep))
loop_reads now read next start p deep a b c = let e : (p + 1) * (1 + deep) ≡ p * (1 + deep) + (1 + deep) = grind arith in omega (arith, a, b, c, e)
