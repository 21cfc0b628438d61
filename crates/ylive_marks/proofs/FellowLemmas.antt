-- Flags of a node and of its fellows.
use Rattle.std.proofs.Common.{◌*◌, ◌≡◌, ℕ, zero, suc, ◌+◌, ◌<◌, ◌≤◌, Bool, true, false, ◌&&◌, ◌||◌, not, List, [], ◌∷◌, ◌++◌, length, slice_get, Option, Some, None, option_map, refl, sym, ap, ◌∙◌, arith, subst, cond, eqb, ltb, ◌≢◌, length-append}
use Rattle.std.specs.Prelude.{slice_set, unwrap_or}
use Rattle.std.specs.Option.{option_map_or}
use Rattle.std.proofs.lemmas.Bool.{eqb-true, eqb-false, ne_eqb, lt-ltb, le-ltb, false≢true}
use Rattle.std.proofs.lemmas.Option.{none-some}
use Rattle.yspec.specs.Forest.{levels}
use Rattle.ystore.specs.Held.{Told, with_same}
use Rattle.ystore.specs.Entries.{without}
use Rattle.ystore.specs.Store.{held_at, reads, same_at, holders_at, instances_at, same_row, same_key, total_at}
use Rattle.ystore_rows.specs.declared.row.NodeId.{NodeId}
use Rattle.ystore_rows.specs.declared.row.Row.{Row}
use Rattle.ystore_rows.specs.declared.row.Row.TheVariants.{Top, Below}
use Rattle.ystore.specs.declared.key.Key.{Key}
use Rattle.ystore.specs.declared.record.Judged.{Judged}
use Rattle.ystore.specs.declared.nodes.Nodes.{Nodes}
use Rattle.ystore_tree.specs.Hanging.{Branches, times}
use Rattle.ystore_tree.proofs.FrameLemmas.{same_rows}
use Rattle.ylive_marks.specs.Totals.{ChangesTold, IsTree, StandsIn, Totals, judged_at, told_at, OnlyFaults}
use Rattle.ylive_marks.specs.Keys.{AreKeys, Agrees, ChangesAt, IsJudged, Keys, Tells, among, flag_at, flag_of, has_key, is_missing, is_shared, is_touched, judged_by, own_at, own_of, slot_for, slot_of, with_key}
use Rattle.ylive_marks.proofs.KeyLemmas.{found_same}
use Rattle.ylive_marks.proofs.WayLemmas.{not_both, itself}
use Rattle.ylive_marks.proofs.LawLemmas.{faults_shapes}
use Rattle.ylive_marks.proofs.TotalLemmas.{mark, tree_same}
use Rattle.ylive_marks.proofs.TellLemmas.{flags_seen, set_long}
use Rattle.ylive_marks.proofs.IndexLemmas.{among_less, among_long, first_among, in_slot, held, held_slot, holds, long_less, only_first, with_here, with_other_number, with_other_slot}

-- ---- one row

pub told_where : (row : Row) (change : Told → Told) (before after : Nodes) → ChangesTold row change before after → ChangesAt (same_row row) change before after
told_where row change before after told other = by (same_row row other) refl
  where
    by : (b : Bool) → same_row row other ≡ b → told_at after other ≡ cond (same_row row other) (option_map change (told_at before other)) (told_at before other)
    by true e =
        subst (λ r. told_at after r ≡ option_map change (told_at before r)) (same_rows row other e) told.changed
        ∙ sym (ap (λ b. cond b (option_map change (told_at before other)) (told_at before other)) e)
    by false e = told.others other e ∙ sym (ap (λ b. cond b (option_map change (told_at before other)) (told_at before other)) e)

-- ---- a flag that is set

pub set_twice : (bs : List Bool) (u : ℕ) (b : Bool) → slice_set (slice_set bs u b) u b ≡ slice_set bs u b
set_twice [] u b = refl
set_twice (x ∷ bs) zero b = refl
set_twice (x ∷ bs) (suc u) b = ap (λ cs. x ∷ cs) (set_twice bs u b)

flag_in : List Bool → ℕ → Bool
flag_in bs u = unwrap_or (slice_get bs u) false

set_here : (bs : List Bool) (u : ℕ) (b : Bool) → u < length bs → unwrap_or (slice_get (slice_set bs u b) u) false ≡ b
set_here [] u b less = absurd (omega (arith, less))
set_here (x ∷ bs) zero b less = refl
set_here (x ∷ bs) (suc u) b less = set_here bs u b (omega (arith, less))

set_off : (bs : List Bool) (u : ℕ) → unwrap_or (slice_get (slice_set bs u false) u) false ≡ false
set_off [] u = refl
set_off (x ∷ bs) zero = refl
set_off (x ∷ bs) (suc u) = set_off bs u

set_else : (bs : List Bool) (u v : ℕ) (b : Bool) → (u ≡ v → ⊥) → slice_get (slice_set bs u b) v ≡ slice_get bs v
set_else [] u v b differ = refl
set_else (x ∷ bs) zero zero b differ = absurd (differ refl)
set_else (x ∷ bs) zero (suc v) b differ = refl
set_else (x ∷ bs) (suc u) zero b differ = refl
set_else (x ∷ bs) (suc u) (suc v) b differ = set_else bs u v b (λ e. differ (ap suc e))

-- ---- flags at some rows

same_in : Option Told → List Bool
same_in o = option_map_or (λ t. t.same) o []

module _ (touched : Row → Bool) (u : ℕ) (b : Bool) (before after : Nodes) (told : ChangesAt touched (with_same u b) before after) where
  pub same_after : (x : NodeId) → same_at after x ≡ cond (touched (Below x)) (slice_set (same_at before x) u b) (same_at before x)
  same_after x =
      flags_seen (held_at after (Below x)) ∙ (ap (λ o. option_map_or (λ t. t.same) o []) (told (Below x))
      ∙ (by (touched (Below x)) (told_at before (Below x)) ∙ ap (λ bs. cond (touched (Below x)) (slice_set bs u b) bs) (sym (flags_seen (held_at before (Below x))))))
    where
      by : (t : Bool) (o : Option Told) → option_map_or (λ t. t.same) (cond t (option_map (with_same u b) o) o) []
          ≡ cond t (slice_set (option_map_or (λ t. t.same) o []) u b) (option_map_or (λ t. t.same) o [])
      by true (Some t) = refl
      by true None = refl
      by false o = refl

  pub flags_long : (x : NodeId) → length (same_at after x) ≡ length (same_at before x)
  flags_long x = ap length (same_after x) ∙ by (touched (Below x))
    where
      by : (t : Bool) → length (cond t (slice_set (same_at before x) u b) (same_at before x)) ≡ length (same_at before x)
      by true = set_long (same_at before x) u b
      by false = refl

  pub flag_else : (x : NodeId) (v : ℕ) → (u ≡ v → ⊥) → flag_at after x v ≡ flag_at before x v
  flag_else x v differ = ap (λ bs. unwrap_or (slice_get bs v) false) (same_after x) ∙ by (touched (Below x))
    where
      by : (t : Bool) → unwrap_or (slice_get (cond t (slice_set (same_at before x) u b) (same_at before x)) v) false ≡ flag_at before x v
      by true = ap (λ o. unwrap_or o false) (set_else (same_at before x) u v b differ)
      by false = refl

  pub flag_kept : (x : NodeId) (v : ℕ) → touched (Below x) ≡ false → flag_at after x v ≡ flag_at before x v
  flag_kept x v not_touched =
      ap (λ bs. unwrap_or (slice_get bs v) false) (same_after x ∙ ap (λ t. cond t (slice_set (same_at before x) u b) (same_at before x)) not_touched)

  pub flag_new : (x : NodeId) → touched (Below x) ≡ true → (b ≡ true → u < length (same_at before x)) → flag_at after x u ≡ b
  flag_new x is_touched long =
      ap (λ bs. unwrap_or (slice_get bs u) false) (same_after x ∙ ap (λ t. cond t (slice_set (same_at before x) u b) (same_at before x)) is_touched)
      ∙ by b long
    where
      by : (c : Bool) → (c ≡ true → u < length (same_at before x)) → unwrap_or (slice_get (slice_set (same_at before x) u c) u) false ≡ c
      by true less = set_here (same_at before x) u true (less refl)
      by false less = set_off (same_at before x) u

  pub judged_kept : (x : NodeId) → judged_at after x ≡ judged_at before x
  judged_kept x = ap (option_map (λ t. t.judged)) (told (Below x)) ∙ by (touched (Below x)) (told_at before (Below x))
    where
      by : (t : Bool) (o : Option Told) → option_map (λ t. t.judged) (cond t (option_map (with_same u b) o) o) ≡ option_map (λ t. t.judged) o
      by true (Some t) = refl
      by true None = refl
      by false o = refl

  pub own_kept : (row : Row) → own_at after row ≡ own_at before row
  own_kept row = ap (option_map own_of) (told row) ∙ by (touched row) (told_at before row)
    where
      by : (t : Bool) (o : Option Told) → option_map own_of (cond t (option_map (with_same u b) o) o) ≡ option_map own_of o
      by true (Some t) = ap (λ n. Some (record (own_of t) { flags = n })) (set_long t.same u b)
      by true None = refl
      by false o = refl

-- ---- what an index tells

module _ (before after : Nodes) (keys : Keys) (f : Branches) where
  pub judged_same : (o : Option Key) (j i : Option Judged) → ((key : Key) → instances_at after key ≡ instances_at before key) → i ≡ j → IsJudged before o j → IsJudged after o i
  judged_same (Some key) j i instances same is = same ∙ (is ∙ ap (λ n. Some (judged_by n)) (sym (found_same before after instances key)))
  judged_same None j i instances same is = ap (λ j. option_map_or is_missing j false) same ∙ is

  pub shared_same : (o : Option Key) → ((k : Key) → o ≡ Some k → holders_at after k ≡ holders_at before k) → is_shared after o ≡ is_shared before o
  shared_same None same = refl
  shared_same (Some k) same = ap (λ ids. ltb 1 (length ids)) (same k refl)

module _ (laws : AreKeys) (key : Key) (id : NodeId) (u : ℕ) (keys : Keys) (f : Branches) (before after : Nodes) (agrees : Agrees before keys f)
    (is_flag : flag_of key ≡ Some u)
    (else : (other : Key) → same_key key other ≡ false → holders_at after other ≡ holders_at before other)
    (instances : (other : Key) → instances_at after other ≡ instances_at before other) where
  slot_is : slot_of key ≡ suc u
  slot_is = ap slot_for is_flag

  -- keys of other slots are others
  other_slot : (k : Key) (s : ℕ) → slot_of k ≡ s → (s ≡ suc u → ⊥) → same_key key k ≡ false
  other_slot k s is differ = not_both (same_key key k) (λ same. differ (sym is ∙ (sym (laws.slots key k same) ∙ slot_is)))

  shared_else : (x : NodeId) (v : ℕ) → (u ≡ v → ⊥) → is_shared after (keys x.0 (suc v)) ≡ is_shared before (keys x.0 (suc v))
  shared_else x v differ =
      shared_same before after keys f (keys x.0 (suc v)) (λ k e. else k (other_slot k (suc v) (agrees.index.slots x.0 (suc v) k e)
      (λ same. differ (omega (arith, same)))))

  -- a node that doesn't hold the key
  shared_without : (x : NodeId) → has_key keys x.0 key ≡ false → is_shared after (keys x.0 (suc u)) ≡ is_shared before (keys x.0 (suc u))
  shared_without x none =
      shared_same before after keys f (keys x.0 (suc u)) (λ k e. else k
      (not_both (same_key key k) (λ same. false≢true (sym none ∙ held_slot before keys f agrees.index x.0 (slot_of key) key k (ap (keys x.0) slot_is ∙ e) same refl))))

  module _ (new : Option Key) where
    other_flags : (x : NodeId) (v : ℕ) → (u ≡ v → ⊥) → with_key id.0 (slot_of key) new keys x.0 (suc v) ≡ keys x.0 (suc v)
    other_flags x v differ = with_other_slot id.0 (slot_of key) new keys x.0 (suc v) (ne_eqb (suc v) (slot_of key) (λ same. differ (let s = slot_is in omega (arith, same, s))))

    other_values : (x : NodeId) → with_key id.0 (slot_of key) new keys x.0 0 ≡ keys x.0 0
    other_values x = with_other_slot id.0 (slot_of key) new keys x.0 0 (ne_eqb 0 (slot_of key) (λ same. absurd (let s = slot_is in omega (arith, same, s))))

    here_is : with_key id.0 (slot_of key) new keys id.0 (suc u) ≡ new
    here_is = with_here id.0 (slot_of key) new keys id.0 (suc u) refl (sym slot_is)

    beside : (x : NodeId) → eqb id.0 x.0 ≡ false → with_key id.0 (slot_of key) new keys x.0 (suc u) ≡ keys x.0 (suc u)
    beside x e = with_other_number id.0 (slot_of key) new keys x.0 (suc u) (ne_eqb x.0 id.0 (λ same. eqb-false id.0 x.0 e (sym same)))

-- ---- who is touched

no_one : (b : Bool) → (b || false) ≡ b
no_one true = refl
no_one false = refl

and_no : (b : Bool) → (b && false) ≡ false
and_no true = refl
and_no false = refl

module _ (id : NodeId) (xs : List NodeId) where
  pub touched_itself : is_touched id (slice_get xs 0) (length xs) (Below id) ≡ ltb 0 (length xs)
  touched_itself = by xs
    where
      by : (xs : List NodeId) → is_touched id (slice_get xs 0) (length xs) (Below id) ≡ ltb 0 (length xs)
      by [] = refl
      by (x ∷ xs) =
          let some : ltb 0 (length (x ∷ xs)) ≡ true = lt-ltb 0 (length (x ∷ xs)) (omega arith) in
          ap (λ b. (b && same_row (Below id) (Below id)) || (eqb (length (x ∷ xs)) 1 && same_row (Below x) (Below id))) some
          ∙ (ap (λ b. b || (eqb (length (x ∷ xs)) 1 && same_row (Below x) (Below id))) (itself (Below id)) ∙ sym some)

  pub touched_none : (x : NodeId) → eqb id.0 x.0 ≡ false → (1 ≤ among x.0 xs → ⊥) → is_touched id (slice_get xs 0) (length xs) (Below x) ≡ false
  touched_none x apart never =
      ap (λ b. (ltb 0 (length xs) && b) || (eqb (length xs) 1 && option_map_or (λ o. same_row (Below o) (Below x)) (slice_get xs 0) false)) apart
      ∙ (ap (λ b. b || (eqb (length xs) 1 && option_map_or (λ o. same_row (Below o) (Below x)) (slice_get xs 0) false)) (and_no (ltb 0 (length xs)))
      ∙ (ap (λ b. eqb (length xs) 1 && b) (by (slice_get xs 0) refl) ∙ and_no (eqb (length xs) 1)))
    where
      by : (o : Option NodeId) → slice_get xs 0 ≡ o → option_map_or (λ o. same_row (Below o) (Below x)) o false ≡ false
      by None e = refl
      by (Some y) e =
          not_both (eqb y.0 x.0) (λ same. never (subst (λ k. 1 ≤ among k xs) (eqb-true y.0 x.0 same) (first_among xs y e)))

  pub touched_fellow : (x : NodeId) → eqb id.0 x.0 ≡ false → 1 ≤ among x.0 xs → is_touched id (slice_get xs 0) (length xs) (Below x) ≡ eqb (length xs) 1
  touched_fellow x apart some =
      ap (λ b. (ltb 0 (length xs) && b) || (eqb (length xs) 1 && option_map_or (λ o. same_row (Below o) (Below x)) (slice_get xs 0) false)) apart
      ∙ (ap (λ b. b || (eqb (length xs) 1 && option_map_or (λ o. same_row (Below o) (Below x)) (slice_get xs 0) false)) (and_no (ltb 0 (length xs)))
      ∙ by (eqb (length xs) 1) refl (slice_get xs 0) refl)
    where
      by : (b : Bool) → eqb (length xs) 1 ≡ b → (o : Option NodeId) → slice_get xs 0 ≡ o → (b && option_map_or (λ o. same_row (Below o) (Below x)) o false) ≡ b
      by false e o is = refl
      by true e (Some y) is = only_first xs y x.0 (eqb-true (length xs) 1 e) is some
      by true e None is = absurd (none (eqb-true (length xs) 1 e) xs is some)
        where
          none : length xs ≡ 1 → (ys : List NodeId) → slice_get ys 0 ≡ None → 1 ≤ among x.0 ys → ⊥
          none long [] is some = omega (arith, some)
          none long (y ∷ ys) is some = none-some y (sym is)

-- ---- a node joins

module _ (laws : AreKeys) (key : Key) (id : NodeId) (u : ℕ) (keys : Keys) (f : Branches) (before after : Nodes) (agrees : Agrees before keys f)
    (is_flag : flag_of key ≡ Some u)
    (else : (other : Key) → same_key key other ≡ false → holders_at after other ≡ holders_at before other)
    (instances : (other : Key) → instances_at after other ≡ instances_at before other) where
  is_slot : slot_of key ≡ suc u
  is_slot = slot_is laws key id u keys f before after agrees is_flag else instances

  module _ (free : keys id.0 (slot_of key) ≡ None) (wide : u < length (same_at before id))
      (here : (other : Key) → same_key key other ≡ true → holders_at after other ≡ holders_at before other ++ id ∷ [])
      (told : ChangesAt (is_touched id (slice_get (holders_at before key) 0) (length (holders_at before key))) (with_same u true) before after) where
    abbrev touched : Row → Bool
    touched = is_touched id (slice_get (holders_at before key) 0) (length (holders_at before key))

    kept_flag : (x : NodeId) → touched (Below x) ≡ false → flag_at after x u ≡ flag_at before x u
    kept_flag x e = flag_kept touched u true before after told x u e

    longer : length (holders_at after key) ≡ suc (length (holders_at before key))
    longer = ap length (here key (laws.itself key)) ∙ (length-append (holders_at before key) (id ∷ []) ∙ omega arith)

    itself_flag : 0 < times id.0 f → flag_at after id u ≡ ltb 1 (length (holders_at after key))
    itself_flag stands = by (length (holders_at before key)) refl
      where
        by : (n : ℕ) → length (holders_at before key) ≡ n → flag_at after id u ≡ ltb 1 (length (holders_at after key))
        by zero e =
            kept_flag id (touched_itself id (holders_at before key) ∙ ap (ltb 0) e)
            ∙ (agrees.tells.flags id u stands ∙ (ap (is_shared before) (ap (keys id.0) (sym is_slot) ∙ free)
            ∙ sym (le-ltb 1 (length (holders_at after key)) (let more = longer in omega (arith, more, e)))))
        by (suc n) e =
            flag_new touched u true before after told id (touched_itself id (holders_at before key) ∙ lt-ltb 0 (length (holders_at before key)) (omega (arith, e))) (λ _. wide)
            ∙ sym (lt-ltb 1 (length (holders_at after key)) (let more = longer in omega (arith, more, e)))

    fellow_flag : (x : NodeId) → 0 < times x.0 f → eqb id.0 x.0 ≡ false → has_key keys x.0 key ≡ true
        → flag_at after x u ≡ is_shared after (keys x.0 (suc u))
    fellow_flag x stands other has = by slot.0 (ap (keys x.0) (sym is_slot) ∙ slot.1) slot.2
      where
        slot : (k : Key) × (keys x.0 (slot_of key) ≡ Some k) × (same_key key k ≡ true)
        slot = in_slot (keys x.0 (slot_of key)) key has

        some : 1 ≤ among x.0 (holders_at before key)
        some = let one = held before keys f agrees.index key x.0 has in omega (arith, one)

        long : 1 ≤ length (holders_at before key)
        long = among_long x.0 (holders_at before key) some

        by : (k : Key) → keys x.0 (suc u) ≡ Some k → same_key key k ≡ true → flag_at after x u ≡ is_shared after (keys x.0 (suc u))
        by k e same = flag (eqb (length (holders_at before key)) 1) refl ∙ sym shared
          where
            found : holders_at before k ≡ holders_at before key
            found = ap (λ o. option_map_or (λ e. e.nodes) o []) (sym (laws.found before key k same))

            found_after : holders_at after k ≡ holders_at after key
            found_after = ap (λ o. option_map_or (λ e. e.nodes) o []) (sym (laws.found after key k same))

            shared : is_shared after (keys x.0 (suc u)) ≡ true
            shared =
                ap (is_shared after) e ∙ (ap (λ ids. ltb 1 (length ids)) found_after
                ∙ lt-ltb 1 (length (holders_at after key)) (let more = longer in let l = long in omega (arith, more, l)))

            flag : (b : Bool) → eqb (length (holders_at before key)) 1 ≡ b → flag_at after x u ≡ true
            flag true one =
                flag_new touched u true before after told x (touched_fellow id (holders_at before key) x other some ∙ one) (λ _. agrees.tells.wide x u k e)
            flag false more =
                kept_flag x (touched_fellow id (holders_at before key) x other some ∙ more)
                ∙ (agrees.tells.flags x u stands ∙ (ap (is_shared before) e ∙ (ap (λ ids. ltb 1 (length ids)) found
                ∙ lt-ltb 1 (length (holders_at before key)) (let l = long in let differ = differs in omega (arith, l, differ)))))
              where
                differs : length (holders_at before key) ≢ 1
                differs same = eqb-false (length (holders_at before key)) 1 more same

    stranger_flag : (x : NodeId) → 0 < times x.0 f → eqb id.0 x.0 ≡ false → has_key keys x.0 key ≡ false
        → flag_at after x u ≡ is_shared after (keys x.0 (suc u))
    stranger_flag x stands other none =
        kept_flag x (touched_none id (holders_at before key) x other (λ some. false≢true (sym none ∙ holds before keys f agrees.index key x.0 some)))
        ∙ (agrees.tells.flags x u stands ∙ sym (shared_without laws key id u keys f before after agrees is_flag else instances x none))

    pub tells_joined : Tells after (with_key id.0 (slot_of key) (Some key) keys) f
    tells_joined =
        record {
          flags = λ x v stands. flags x v stands (eqb u v) refl (eqb id.0 x.0) refl (has_key keys x.0 key) refl;
          wide = λ x v k. wides x v k (eqb u v) refl (eqb id.0 x.0) refl;
          judged = λ x stands.
              subst (λ o. IsJudged after o (judged_at after x)) (sym (other_values laws key id u keys f before after agrees is_flag else instances (Some key) x))
              (judged_same before after keys f (keys x.0 0) (judged_at before x) (judged_at after x) instances (judged_kept touched u true before after told x) (agrees.tells.judged x stands));
        }
      where
        flags : (x : NodeId) (v : ℕ) → 0 < times x.0 f → (a : Bool) → eqb u v ≡ a → (b : Bool) → eqb id.0 x.0 ≡ b → (c : Bool) → has_key keys x.0 key ≡ c
            → flag_at after x v ≡ is_shared after (with_key id.0 (slot_of key) (Some key) keys x.0 (suc v))
        flags x v stands false e b d c h =
            flag_else touched u true before after told x v (eqb-false u v e)
            ∙ (agrees.tells.flags x v stands ∙ (sym (shared_else laws key id u keys f before after agrees is_flag else instances x v (eqb-false u v e))
            ∙ ap (is_shared after) (sym (other_flags laws key id u keys f before after agrees is_flag else instances (Some key) x v (eqb-false u v e)))))
        flags x v stands true e true d c h =
            subst (λ w. flag_at after x w ≡ is_shared after (with_key id.0 (slot_of key) (Some key) keys x.0 (suc w))) (eqb-true u v e)
            (subst (λ (y : NodeId). 0 < times y.0 f → flag_at after y u ≡ is_shared after (with_key id.0 (slot_of key) (Some key) keys y.0 (suc u)))
            (ap (λ (i : ℕ). record { 0 = i }) (eqb-true id.0 x.0 d))
            (λ there. itself_flag there ∙ ap (is_shared after) (sym (here_is laws key id u keys f before after agrees is_flag else instances (Some key)))) stands)
        flags x v stands true e false d true h =
            subst (λ w. flag_at after x w ≡ is_shared after (with_key id.0 (slot_of key) (Some key) keys x.0 (suc w))) (eqb-true u v e)
            (fellow_flag x stands d h ∙ ap (is_shared after) (sym (beside laws key id u keys f before after agrees is_flag else instances (Some key) x d)))
        flags x v stands true e false d false h =
            subst (λ w. flag_at after x w ≡ is_shared after (with_key id.0 (slot_of key) (Some key) keys x.0 (suc w))) (eqb-true u v e)
            (stranger_flag x stands d h ∙ ap (is_shared after) (sym (beside laws key id u keys f before after agrees is_flag else instances (Some key) x d)))

        wides : (x : NodeId) (v : ℕ) (k : Key) → (a : Bool) → eqb u v ≡ a → (b : Bool) → eqb id.0 x.0 ≡ b
            → with_key id.0 (slot_of key) (Some key) keys x.0 (suc v) ≡ Some k → v < length (same_at after x)
        wides x v k false e b d is =
            let was = agrees.tells.wide x v k (sym (other_flags laws key id u keys f before after agrees is_flag else instances (Some key) x v (eqb-false u v e)) ∙ is) in
            let long = flags_long touched u true before after told x in
            omega (arith, was, long)
        wides x v k true e true d is =
            let same = eqb-true u v e in
            let long = flags_long touched u true before after told x in
            let at : length (same_at before id) ≡ length (same_at before x) = ap (λ (i : ℕ). length (same_at before (record { 0 = i }))) (eqb-true id.0 x.0 d) in
            omega (arith, same, long, at, wide)
        wides x v k true e false d is =
            let same = eqb-true u v e in
            let was = agrees.tells.wide x u k (sym (beside laws key id u keys f before after agrees is_flag else instances (Some key) x d) ∙ (ap (λ w. with_key id.0 (slot_of key) (Some key) keys x.0 (suc w)) same ∙ is)) in
            let long = flags_long touched u true before after told x in
            omega (arith, same, was, long)

  -- ---- and leaves

  module _ (has : has_key keys id.0 key ≡ true)
      (here : (other : Key) → same_key key other ≡ true → holders_at after other ≡ without id (holders_at before other))
      (told : ChangesAt (is_touched id (slice_get (holders_at after key) 0) (length (holders_at after key))) (with_same u false) before after) where
    abbrev left : Row → Bool
    left = is_touched id (slice_get (holders_at after key) 0) (length (holders_at after key))

    left_flag : (x : NodeId) → left (Below x) ≡ false → flag_at after x u ≡ flag_at before x u
    left_flag x e = flag_kept left u false before after told x u e

    off_flag : (x : NodeId) → left (Below x) ≡ true → flag_at after x u ≡ false
    off_flag x e = flag_new left u false before after told x e (λ never. absurd (false≢true never))

    one_before : 1 ≤ among id.0 (holders_at before key)
    one_before = let one = held before keys f agrees.index key id.0 has in omega (arith, one)

    shorter : length (holders_at after key) + 1 ≡ length (holders_at before key)
    shorter = ap (λ ids. length ids + 1) (here key (laws.itself key)) ∙ long_less id (holders_at before key) one_before

    among_after : (x : NodeId) → eqb id.0 x.0 ≡ false → among x.0 (holders_at after key) ≡ among x.0 (holders_at before key)
    among_after x other =
        let less = among_less id (holders_at before key) one_before x.0 in
        let now = ap (among x.0) (here key (laws.itself key)) in
        let none : mark (eqb id.0 x.0) ≡ 0 = ap mark other in
        omega (arith, less, now, none)

    itself_left : 0 < times id.0 f → flag_at after id u ≡ false
    itself_left stands = by (length (holders_at after key)) refl
      where
        slot : (k : Key) × (keys id.0 (slot_of key) ≡ Some k) × (same_key key k ≡ true)
        slot = in_slot (keys id.0 (slot_of key)) key has

        by : (n : ℕ) → length (holders_at after key) ≡ n → flag_at after id u ≡ false
        by zero e =
            left_flag id (touched_itself id (holders_at after key) ∙ ap (ltb 0) e)
            ∙ (agrees.tells.flags id u stands ∙ (ap (is_shared before) (ap (keys id.0) (sym is_slot) ∙ slot.1)
            ∙ (ap (λ o. ltb 1 (length (option_map_or (λ e. e.nodes) o []))) (sym (laws.found before key slot.0 slot.2))
            ∙ le-ltb 1 (length (holders_at before key)) (let less = shorter in omega (arith, less, e)))))
        by (suc n) e = off_flag id (touched_itself id (holders_at after key) ∙ lt-ltb 0 (length (holders_at after key)) (omega (arith, e)))

    fellow_left : (x : NodeId) → 0 < times x.0 f → eqb id.0 x.0 ≡ false → has_key keys x.0 key ≡ true
        → flag_at after x u ≡ is_shared after (keys x.0 (suc u))
    fellow_left x stands other holds_it = by slot.0 (ap (keys x.0) (sym is_slot) ∙ slot.1) slot.2
      where
        slot : (k : Key) × (keys x.0 (slot_of key) ≡ Some k) × (same_key key k ≡ true)
        slot = in_slot (keys x.0 (slot_of key)) key holds_it

        some : 1 ≤ among x.0 (holders_at after key)
        some = let one = held before keys f agrees.index key x.0 holds_it in let same = among_after x other in omega (arith, one, same)

        long : 1 ≤ length (holders_at after key)
        long = among_long x.0 (holders_at after key) some

        by : (k : Key) → keys x.0 (suc u) ≡ Some k → same_key key k ≡ true → flag_at after x u ≡ is_shared after (keys x.0 (suc u))
        by k e same = flag (eqb (length (holders_at after key)) 1) refl ∙ sym shared
          where
            shared : is_shared after (keys x.0 (suc u)) ≡ ltb 1 (length (holders_at after key))
            shared = ap (is_shared after) e ∙ ap (λ o. ltb 1 (length (option_map_or (λ e. e.nodes) o []))) (sym (laws.found after key k same))

            flag : (b : Bool) → eqb (length (holders_at after key)) 1 ≡ b → flag_at after x u ≡ ltb 1 (length (holders_at after key))
            flag true one =
                off_flag x (touched_fellow id (holders_at after key) x other some ∙ one)
                ∙ sym (le-ltb 1 (length (holders_at after key)) (let is = eqb-true (length (holders_at after key)) 1 one in omega (arith, is)))
            flag false more =
                left_flag x (touched_fellow id (holders_at after key) x other some ∙ more)
                ∙ (agrees.tells.flags x u stands ∙ (ap (is_shared before) e
                ∙ (ap (λ o. ltb 1 (length (option_map_or (λ e. e.nodes) o []))) (sym (laws.found before key k same))
                ∙ (lt-ltb 1 (length (holders_at before key)) (let l = long in let less = shorter in omega (arith, l, less))
                ∙ sym (lt-ltb 1 (length (holders_at after key)) (let l = long in let differ = differs in omega (arith, l, differ)))))))
              where
                differs : length (holders_at after key) ≢ 1
                differs same = eqb-false (length (holders_at after key)) 1 more same

    stranger_left : (x : NodeId) → 0 < times x.0 f → eqb id.0 x.0 ≡ false → has_key keys x.0 key ≡ false
        → flag_at after x u ≡ is_shared after (keys x.0 (suc u))
    stranger_left x stands other none =
        left_flag x (touched_none id (holders_at after key) x other (λ some.
        false≢true (sym none ∙ holds before keys f agrees.index key x.0 (let same = among_after x other in omega (arith, some, same)))))
        ∙ (agrees.tells.flags x u stands ∙ sym (shared_without laws key id u keys f before after agrees is_flag else instances x none))

    pub tells_left : Tells after (with_key id.0 (slot_of key) None keys) f
    tells_left =
        record {
          flags = λ x v stands. flags x v stands (eqb u v) refl (eqb id.0 x.0) refl (has_key keys x.0 key) refl;
          wide = λ x v k. wides x v k (eqb u v) refl (eqb id.0 x.0) refl;
          judged = λ x stands.
              subst (λ o. IsJudged after o (judged_at after x)) (sym (other_values laws key id u keys f before after agrees is_flag else instances None x))
              (judged_same before after keys f (keys x.0 0) (judged_at before x) (judged_at after x) instances (judged_kept left u false before after told x) (agrees.tells.judged x stands));
        }
      where
        flags : (x : NodeId) (v : ℕ) → 0 < times x.0 f → (a : Bool) → eqb u v ≡ a → (b : Bool) → eqb id.0 x.0 ≡ b → (c : Bool) → has_key keys x.0 key ≡ c
            → flag_at after x v ≡ is_shared after (with_key id.0 (slot_of key) None keys x.0 (suc v))
        flags x v stands false e b d c h =
            flag_else left u false before after told x v (eqb-false u v e)
            ∙ (agrees.tells.flags x v stands ∙ (sym (shared_else laws key id u keys f before after agrees is_flag else instances x v (eqb-false u v e))
            ∙ ap (is_shared after) (sym (other_flags laws key id u keys f before after agrees is_flag else instances None x v (eqb-false u v e)))))
        flags x v stands true e true d c h =
            subst (λ w. flag_at after x w ≡ is_shared after (with_key id.0 (slot_of key) None keys x.0 (suc w))) (eqb-true u v e)
            (subst (λ (y : NodeId). 0 < times y.0 f → flag_at after y u ≡ is_shared after (with_key id.0 (slot_of key) None keys y.0 (suc u)))
            (ap (λ (i : ℕ). record { 0 = i }) (eqb-true id.0 x.0 d))
            (λ there. itself_left there ∙ ap (is_shared after) (sym (here_is laws key id u keys f before after agrees is_flag else instances None))) stands)
        flags x v stands true e false d true h =
            subst (λ w. flag_at after x w ≡ is_shared after (with_key id.0 (slot_of key) None keys x.0 (suc w))) (eqb-true u v e)
            (fellow_left x stands d h ∙ ap (is_shared after) (sym (beside laws key id u keys f before after agrees is_flag else instances None x d)))
        flags x v stands true e false d false h =
            subst (λ w. flag_at after x w ≡ is_shared after (with_key id.0 (slot_of key) None keys x.0 (suc w))) (eqb-true u v e)
            (stranger_left x stands d h ∙ ap (is_shared after) (sym (beside laws key id u keys f before after agrees is_flag else instances None x d)))

        wides : (x : NodeId) (v : ℕ) (k : Key) → (a : Bool) → eqb u v ≡ a → (b : Bool) → eqb id.0 x.0 ≡ b
            → with_key id.0 (slot_of key) None keys x.0 (suc v) ≡ Some k → v < length (same_at after x)
        wides x v k false e b d is =
            let was = agrees.tells.wide x v k (sym (other_flags laws key id u keys f before after agrees is_flag else instances None x v (eqb-false u v e)) ∙ is) in
            let long = flags_long left u false before after told x in
            omega (arith, was, long)
        wides x v k true e true d is =
            absurd (none-some k (sym (with_here id.0 (slot_of key) None keys x.0 (suc v) (sym (eqb-true id.0 x.0 d)) (ap suc (sym (eqb-true u v e)) ∙ sym is_slot)) ∙ is))
        wides x v k true e false d is =
            let same = eqb-true u v e in
            let was = agrees.tells.wide x u k (sym (beside laws key id u keys f before after agrees is_flag else instances None x d) ∙ (ap (λ w. with_key id.0 (slot_of key) None keys x.0 (suc w)) same ∙ is)) in
            let long = flags_long left u false before after told x in
            omega (arith, same, was, long)

-- ---- two flags, one after the other

same_twice : (number : ℕ) (b : Bool) (o : Option Told) → option_map (with_same number b) (option_map (with_same number b) o) ≡ option_map (with_same number b) o
same_twice number b (Some t) = ap (λ bs. Some (record t { same = bs })) (set_twice t.same number b)
same_twice number b None = refl

module _ (id other : NodeId) (number : ℕ) (b : Bool) (first second third : Nodes)
    (one : ChangesTold (Below id) (with_same number b) first second) (two : ChangesTold (Below other) (with_same number b) second third) where
  both_one : ChangesAt (is_touched id (Some other) 1) (with_same number b) first third
  both_one row =
      told_where (Below other) (with_same number b) second third two row
      ∙ (ap (λ o. cond (same_row (Below other) row) (option_map (with_same number b) o) o) (told_where (Below id) (with_same number b) first second one row)
      ∙ by (same_row (Below id) row) (same_row (Below other) row) (told_at first row))
    where
      by : (a c : Bool) (o : Option Told) → cond c (option_map (with_same number b) (cond a (option_map (with_same number b) o) o)) (cond a (option_map (with_same number b) o) o)
          ≡ cond (a || c) (option_map (with_same number b) o) o
      by true true o = same_twice number b o
      by true false o = refl
      by false true o = refl
      by false false o = refl

  pub both_told : (fellow : Option NodeId) (fellows : ℕ) → fellow ≡ Some other → fellows ≡ 1 → ChangesAt (is_touched id fellow fellows) (with_same number b) first third
  both_told fellow fellows e n =
      subst (λ (o : Option NodeId). ChangesAt (is_touched id o fellows) (with_same number b) first third) (sym e)
      (subst (λ (k : ℕ). ChangesAt (is_touched id (Some other) k) (with_same number b) first third) (sym n) both_one)

  pub both_totals : (fellow : Option NodeId) (fellows : ℕ) → fellow ≡ Some other → fellows ≡ 1 → (f : Branches) → IsTree first f → Totals first f
      → (StandsIn (Below id) f → slice_get (same_at first id) number ≡ Some (not b) → Totals second f)
      → (IsTree second f → Totals second f → StandsIn (Below other) f → slice_get (same_at second other) number ≡ Some (not b) → Totals third f)
      → ((x : NodeId) → is_touched id fellow fellows (Below x) ≡ true → StandsIn (Below x) f × (slice_get (same_at first x) number ≡ Some (not b)))
      → option_map_or (λ (o : NodeId). eqb id.0 o.0) fellow false ≡ false → Totals third f
  both_totals fellow fellows e n f tree all tell_one tell_two touches differ =
      tell_two (tree_same first second (faults_shapes first second one.kept) f tree)
      (tell_one at_id.0 at_id.1) at_other.0 (ap (λ bs. slice_get bs number) same_other ∙ at_other.1)
    where
      touched_is : (x : NodeId) → is_touched id (Some other) 1 (Below x) ≡ true → is_touched id fellow fellows (Below x) ≡ true
      touched_is x t = ap (λ o. is_touched id o fellows (Below x)) e ∙ (ap (λ k. is_touched id (Some other) k (Below x)) n ∙ t)

      or_true : (a : Bool) → (a || true) ≡ true
      or_true true = refl
      or_true false = refl

      at_id : StandsIn (Below id) f × (slice_get (same_at first id) number ≡ Some (not b))
      at_id = touches id (touched_is id (ap (λ c. c || same_row (Below other) (Below id)) (itself (Below id))))

      at_other : StandsIn (Below other) f × (slice_get (same_at first other) number ≡ Some (not b))
      at_other = touches other (touched_is other (ap (λ c. same_row (Below id) (Below other) || c) (itself (Below other)) ∙ or_true (same_row (Below id) (Below other))))

      apart : same_row (Below id) (Below other) ≡ false
      apart = sym (ap (λ o. option_map_or (λ (o : NodeId). eqb id.0 o.0) o false) e) ∙ differ

      same_other : same_at second other ≡ same_at first other
      same_other =
          flags_seen (held_at second (Below other)) ∙ (ap (λ o. option_map_or (λ t. t.same) o []) (one.others (Below other) apart) ∙ sym (flags_seen (held_at first (Below other))))

-- the reads of both
pub both_reads : (id other : NodeId) (number : ℕ) (b : Bool) (first second third : Nodes) (fellow : Option NodeId) (fellows : ℕ) → fellow ≡ Some other → fellows ≡ 1
    → OnlyFaults first second → (f : Branches) → IsTree first f
    → ((x : NodeId) → is_touched id fellow fellows (Below x) ≡ true → StandsIn (Below x) f)
    → (IsTree first f → StandsIn (Below id) f → reads second ≤ reads first + levels f)
    → (IsTree second f → StandsIn (Below other) f → reads third ≤ reads second + levels f)
    → reads third ≤ reads first + 2 * levels f
both_reads id other number b first second third fellow fellows e n only f tree touches one two =
    let a = one tree (touches id (is_one id (ap (λ c. c || same_row (Below other) (Below id)) (itself (Below id))))) in
    let c = two (tree_same first second (faults_shapes first second only) f tree)
    (touches other (is_one other (ap (λ c. same_row (Below id) (Below other) || c) (itself (Below other)) ∙ or_true (same_row (Below id) (Below other))))) in
    omega (arith, a, c)
  where
    or_true : (a : Bool) → (a || true) ≡ true
    or_true true = refl
    or_true false = refl

    is_one : (x : NodeId) → is_touched id (Some other) 1 (Below x) ≡ true → is_touched id fellow fellows (Below x) ≡ true
    is_one x t = ap (λ o. is_touched id o fellows (Below x)) e ∙ (ap (λ k. is_touched id (Some other) k (Below x)) n ∙ t)

-- and totals beside the forest
pub both_beside : (id other : NodeId) (first second third : Nodes) (fellow : Option NodeId) (fellows : ℕ) → fellow ≡ Some other → fellows ≡ 1
    → OnlyFaults first second → (f : Branches) → IsTree first f
    → ((x : NodeId) → is_touched id fellow fellows (Below x) ≡ true → StandsIn (Below x) f)
    → (x : NodeId) → (IsTree first f → StandsIn (Below id) f → total_at second (Below x) ≡ total_at first (Below x))
    → (IsTree second f → StandsIn (Below other) f → total_at third (Below x) ≡ total_at second (Below x))
    → total_at third (Below x) ≡ total_at first (Below x)
both_beside id other first second third fellow fellows e n only f tree touches x one two =
    two (tree_same first second (faults_shapes first second only) f tree)
    (touches other (is_one other (ap (λ c. same_row (Below id) (Below other) || c) (itself (Below other)) ∙ or_true (same_row (Below id) (Below other)))))
    ∙ one tree (touches id (is_one id (ap (λ c. c || same_row (Below other) (Below id)) (itself (Below id)))))
  where
    or_true : (a : Bool) → (a || true) ≡ true
    or_true true = refl
    or_true false = refl

    is_one : (x : NodeId) → is_touched id (Some other) 1 (Below x) ≡ true → is_touched id fellow fellows (Below x) ≡ true
    is_one x t = ap (λ o. is_touched id o fellows (Below x)) e ∙ (ap (λ k. is_touched id (Some other) k (Below x)) n ∙ t)

pub own_touched : (id : NodeId) (fellow : Option NodeId) (fellows : ℕ) → 0 < fellows → is_touched id fellow fellows (Below id) ≡ true
own_touched id fellow fellows some =
    ap (λ a. (a && same_row (Below id) (Below id)) || (eqb fellows 1 && option_map_or (λ other. same_row (Below other) (Below id)) fellow false)) (lt-ltb 0 fellows some)
    ∙ ap (λ a. a || (eqb fellows 1 && option_map_or (λ other. same_row (Below other) (Below id)) fellow false)) (itself (Below id))

-- the top is below no node
pub touched_top : (id : NodeId) (fellow : Option NodeId) (fellows : ℕ) → is_touched id fellow fellows Top ≡ false
touched_top id fellow fellows = by (ltb 0 fellows) (eqb fellows 1) fellow
  where
    by : (a b : Bool) (o : Option NodeId) → ((a && false) || (b && option_map_or (λ other. same_row (Below other) Top) o false)) ≡ false
    by true true None = refl
    by true true (Some other) = refl
    by true false o = refl
    by false true None = refl
    by false true (Some other) = refl
    by false false o = refl

-- ---- why a row is touched

pub touched_why : (id : NodeId) (xs : List NodeId) (x : NodeId) → is_touched id (slice_get xs 0) (length xs) (Below x) ≡ true → eqb id.0 x.0 ≡ false
    → (1 ≤ among x.0 xs) × (length xs ≡ 1)
touched_why id xs x touched apart = by (among x.0 xs) refl
  where
    by : (k : ℕ) → among x.0 xs ≡ k → (1 ≤ among x.0 xs) × (length xs ≡ 1)
    by zero e = absurd (false≢true (sym (touched_none id xs x apart (λ some. omega (arith, e, some))) ∙ touched))
    by (suc k) e =
        let some : 1 ≤ among x.0 xs = omega (arith, e) in
        (some, eqb-true (length xs) 1 (sym (touched_fellow id xs x apart some) ∙ touched))

pub some_flag : (bs : List Bool) (u : ℕ) (b : Bool) → u < length bs → unwrap_or (slice_get bs u) false ≡ b → slice_get bs u ≡ Some b
some_flag [] u b less e = absurd (omega (arith, less))
some_flag (x ∷ bs) zero b less e = ap Some e
some_flag (x ∷ bs) (suc u) b less e = some_flag bs u b (omega (arith, less)) e
