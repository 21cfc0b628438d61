-- A node joins those that hold a key, or leaves them.
use Rattle.std.proofs.Common.{◌*◌, ◌≡◌, ℕ, zero, suc, ◌+◌, ◌<◌, ◌≤◌, Bool, true, false, ◌&&◌, [], ◌∷◌, ◌++◌, length, slice_get, Option, Some, None, is_some, option_map, refl, sym, ap, ◌∙◌, arith, subst, cond, eqb, ltb}
use Rattle.std.specs.Prelude.{unwrap_or}
use Rattle.std.specs.Option.{option_map_or}
use Rattle.std.proofs.lemmas.Bool.{eqb-true, eqb-false, ne_eqb, lt-ltb, false≢true}
use Rattle.std.proofs.lemmas.Option.{same_Some, none-some}
use Rattle.yspec.specs.Forest.{levels}
use Rattle.ystore.specs.Held.{Told, with_same, with_judged}
use Rattle.ystore.specs.Entries.{Entry, with_node, without_node, without}
use Rattle.ystore.specs.Store.{held_at, reads, entry_at, same_at, holders_at, instances_at, node_count, same_row, same_key, ChangesEntry, total_at}
use Rattle.ystore_rows.specs.declared.row.NodeId.{NodeId}
use Rattle.ystore_rows.specs.declared.row.Row.{Row}
use Rattle.ystore_rows.specs.declared.row.Row.TheVariants.{Top, Below}
use Rattle.ystore.specs.declared.key.Key.{Key}
use Rattle.ystore.specs.declared.record.Judged.{Judged}
use Rattle.ystore.specs.declared.record.Judged.TheVariants.{Right, Missing}
use Rattle.ystore.specs.declared.nodes.Nodes.{Nodes}
use Rattle.ystore_tree.specs.Hanging.{Branches, times}
use Rattle.ystore_tree.proofs.FrameLemmas.{same_rows}
use Rattle.ystore_tree.specs.Parts.{OnlyReads}
use Rattle.ylive_marks.specs.Totals.{IsTree, OnlyFaults, StandsIn, Totals, is_told, judged_at, told_at}
use Rattle.ylive_marks.specs.Keys.{AreKeys, Agrees, ChangesAt, ChangesKey, Follows, Indexes, IsJudged, Keys, Tells, among, flag_of, found_at, has_key, is_missing, is_shared, is_touched, judged_by, own_at, own_of, slot_for, slot_of, two_climbs, with_key, wrong_of}
pub use Rattle.ystore_tree.proofs.PartLemmas.{reads_on}
use Rattle.ylive_marks.proofs.KeyLemmas.{found_alike, found_same}
use Rattle.ylive_marks.proofs.WayLemmas.{not_both, not_this, itself}
use Rattle.ylive_marks.proofs.TotalLemmas.{mark, totals_same, tree_same}
use Rattle.ylive_marks.proofs.LawLemmas.{held_faults}
use Rattle.ylive_marks.proofs.TellLemmas.{flags_seen}
use Rattle.ylive_marks.proofs.IndexLemmas.{among_less, held, holders_else, holders_here, holds, in_slot, instances_same, joined, key_stands, left, long_less, first_among, with_here, with_other_number, with_other_slot}
use Rattle.ylive_marks.proofs.FellowLemmas.{judged_same, own_kept, shared_same, some_flag, tells_joined, tells_left, touched_itself, touched_top, touched_why}

-- ---- an entry that changes

-- an entry is changed, and nothing else but the count of reads
pub record Enters (key : Key) (change : Entry → Entry) (before after : Nodes) : Type 0 where
  pub changed : entry_at after key ≡ option_map change (entry_at before key)
  pub others : (other : Key) → same_key key other ≡ false → entry_at after other ≡ entry_at before other
  pub held : (row : Row) → held_at after row ≡ held_at before row
  pub node_count : node_count after ≡ node_count before

module _ (key : Key) (change : Entry → Entry) where
  pub enters : (before after : Nodes) → ChangesEntry key (option_map change) before after → Enters key change before after
  enters before after changes = record { changed = changes.changed; others = changes.others; held = changes.held; node_count = changes.node_count }

  pub read_enters : (before read after : Nodes) → OnlyReads before read → Enters key change read after → Enters key change before after
  read_enters before read after reads e =
      record {
        changed = e.changed ∙ ap (option_map change) (reads.entries key);
        others = λ other apart. e.others other apart ∙ reads.entries other;
        held = λ row. e.held row ∙ reads.held row;
        node_count = e.node_count ∙ reads.node_count;
      }

  pub enters_read : (before after read : Nodes) → Enters key change before after → OnlyReads after read → Enters key change before read
  enters_read before after read e reads =
      record {
        changed = reads.entries key ∙ e.changed;
        others = λ other apart. reads.entries other ∙ e.others other apart;
        held = λ row. reads.held row ∙ e.held row;
        node_count = reads.node_count ∙ e.node_count;
      }

  pub key_changed : (first second third : Nodes) → Enters key change first second → OnlyFaults second third → ChangesKey key change first third
  key_changed first second third e only =
      record {
        changed = only.entries key ∙ e.changed;
        others = λ other apart. only.entries other ∙ e.others other apart;
        shapes = λ row. only.shapes row ∙ ap (option_map (λ h. h.shape)) (e.held row);
        rooms = λ row. only.rooms row ∙ ap (option_map (λ h. h.room)) (e.held row);
        node_count = only.node_count ∙ e.node_count;
      }

  pub entered_told : (before after : Nodes) → Enters key change before after → (row : Row) → told_at after row ≡ told_at before row
  entered_told before after e row = ap (option_map (λ h. h.told)) (e.held row)

  pub entered_tree : (before after : Nodes) → Enters key change before after → (f : Branches) → IsTree before f → IsTree after f
  entered_tree before after e f tree =
      tree_same before after (record { shapes = λ row. ap (option_map (λ h. h.shape)) (e.held row); all = e.node_count }) f tree

  pub entered_totals : (before after : Nodes) → Enters key change before after → (f : Branches) → Totals before f → Totals after f
  entered_totals before after e f all = totals_same before after (held_faults before after e.held) f all

entered_total : (before after : Nodes) → ((row : Row) → held_at after row ≡ held_at before row) → (row : Row) → total_at after row ≡ total_at before row
entered_total before after held row = ap (λ o. option_map_or (λ h. h.total) o 0) (held row)

pub no_faults : (nodes : Nodes) → OnlyFaults nodes nodes
no_faults nodes = record { shapes = λ row. refl; rooms = λ row. refl; entries = λ key. refl; node_count = refl }

-- ---- what is told at some rows, after an entry

pub told_since : (touched : Row → Bool) (change : Told → Told) (first second third : Nodes) → ((row : Row) → told_at second row ≡ told_at first row)
    → ChangesAt touched change second third → ChangesAt touched change first third
told_since touched change first second third same told row = told row ∙ ap (λ o. cond (touched row) (option_map change o) o) (same row)

module _ (touched : Row → Bool) (change : Told → Told) (before after : Nodes) (told : ChangesAt touched change before after) where
  pub untouched : (row : Row) → touched row ≡ false → told_at after row ≡ told_at before row
  untouched row e = told row ∙ ap (λ t. cond t (option_map change (told_at before row)) (told_at before row)) e

  pub is_changed : (row : Row) → touched row ≡ true → told_at after row ≡ option_map change (told_at before row)
  is_changed row e = told row ∙ ap (λ t. cond t (option_map change (told_at before row)) (told_at before row)) e

module _ (touched : Row → Bool) (j : Judged) (before after : Nodes) (told : ChangesAt touched (with_judged j) before after) where
  pub same_still : (x : NodeId) → same_at after x ≡ same_at before x
  same_still x =
      flags_seen (held_at after (Below x)) ∙ (ap (λ o. option_map_or (λ t. t.same) o []) (told (Below x))
      ∙ (by (touched (Below x)) (told_at before (Below x)) ∙ sym (flags_seen (held_at before (Below x)))))
    where
      by : (t : Bool) (o : Option Told) → option_map_or (λ t. t.same) (cond t (option_map (with_judged j) o) o) [] ≡ option_map_or (λ t. t.same) o []
      by true (Some t) = refl
      by true None = refl
      by false o = refl

  pub judged_new : (x : NodeId) (i : Judged) → touched (Below x) ≡ true → judged_at before x ≡ Some i → judged_at after x ≡ Some j
  judged_new x i e is = ap (option_map (λ t. t.judged)) (is_changed touched (with_judged j) before after told (Below x) e) ∙ by (told_at before (Below x)) is
    where
      by : (o : Option Told) → option_map (λ t. t.judged) o ≡ Some i → option_map (λ t. t.judged) (option_map (with_judged j) o) ≡ Some j
      by (Some t) e = refl
      by None e = absurd (none-some i e)

  pub judged_else : (x : NodeId) → touched (Below x) ≡ false → judged_at after x ≡ judged_at before x
  judged_else x e = ap (option_map (λ t. t.judged)) (untouched touched (with_judged j) before after told (Below x) e)

  pub own_judged : wrong_of j ≡ None → ((row : Row) → touched row ≡ true → option_map (λ t. wrong_of t.judged) (told_at before row) ≡ Some None)
      → (row : Row) → own_at after row ≡ own_at before row
  own_judged right rights row = by (touched row) refl
    where
      here : (o : Option Told) → option_map (λ t. wrong_of t.judged) o ≡ Some None → option_map own_of (option_map (with_judged j) o) ≡ option_map own_of o
      here (Some t) e = ap (λ w. Some (record (own_of t) { wrong = w })) (right ∙ sym (same_Some (wrong_of t.judged) None e))
      here None e = refl

      by : (b : Bool) → touched row ≡ b → own_at after row ≡ own_at before row
      by true e = ap (option_map own_of) (is_changed touched (with_judged j) before after told row e) ∙ here (told_at before row) (rights row e)
      by false e = ap (option_map own_of) (untouched touched (with_judged j) before after told row e)

-- ---- a node joins

no_entry : (o : Option Entry) → is_some o ≡ true → o ≡ None → ⊥
no_entry (Some e) there none = none-some e (sym none)
no_entry None there none = false≢true there

module _ (laws : AreKeys) (key : Key) (id : NodeId) (keys : Keys) (f : Branches) (first second third : Nodes) (only : OnlyFaults second third)
    (tree : IsTree first f) (agrees : Agrees first keys f) (all : Totals first f) where
  module _ (entered : Enters key (with_node id) first second) (stands_there : 0 < times id.0 f) (free : keys id.0 (slot_of key) ≡ None) (there : is_some (entry_at first key) ≡ true) where
    change : ChangesKey key (with_node id) first third
    change = key_changed key (with_node id) first second third entered only

    here : (other : Key) → same_key key other ≡ true → holders_at third other ≡ holders_at first other ++ id ∷ []
    here =
        holders_here laws key (with_node id) first third change.changed change.others (λ xs. xs ++ id ∷ []) (λ e. refl)
        (λ none. absurd (no_entry (entry_at first key) there none))

    else : (other : Key) → same_key key other ≡ false → holders_at third other ≡ holders_at first other
    else = holders_else laws key (with_node id) first third change.changed change.others

    instances : (other : Key) → instances_at third other ≡ instances_at first other
    instances = instances_same laws key (with_node id) first third change.changed change.others (λ e. refl)

    index : Indexes third (with_key id.0 (slot_of key) (Some key) keys) f
    index = joined laws key id keys f first third agrees.index else free stands_there here

    told_before : (row : Row) → told_at second row ≡ told_at first row
    told_before = entered_told key (with_node id) first second entered

    not_held : has_key keys id.0 key ≡ false
    not_held = ap (λ o. option_map_or (same_key key) o false) free

    abbrev touched : Row → Bool
    touched = is_touched id (slice_get (holders_at first key) 0) (length (holders_at first key))

    abbrev touched_if : Bool → Row → Bool
    touched_if b row = b && same_row (Below id) row

    pub joined_fellows : (u : ℕ) (fellow : Option NodeId) (n : ℕ) → flag_of key ≡ Some u → u < length (same_at first id)
        → fellow ≡ slice_get (holders_at first key) 0 → n ≡ length (holders_at first key)
        → ChangesAt (is_touched id fellow n) (with_same u true) second third
        → (IsTree second f → Totals second f
        → ((x : NodeId) → is_touched id fellow n (Below x) ≡ true → StandsIn (Below x) f × (slice_get (same_at second x) u ≡ Some false))
        → option_map_or (λ (o : NodeId). eqb id.0 o.0) fellow false ≡ false → Totals third f)
        → reads second ≤ reads first + 2
        → (IsTree second f → ((x : NodeId) → is_touched id fellow n (Below x) ≡ true → StandsIn (Below x) f) → (reads third ≤ reads second + 2 * levels f) × ((y : NodeId) → times y.0 f ≡ 0 → total_at third (Below y) ≡ total_at second (Below y)))
        → Follows (two_climbs f) (with_key id.0 (slot_of key) (Some key) keys) f first third
    joined_fellows u fellow n is_flag wide is_fellow is_n told totals few climbs =
        record {
          agrees = record { index = index; tells = tells_joined laws key id u keys f first third agrees is_flag else instances free wide here since };
          totals = totals (entered_tree key (with_node id) first second entered f tree) (entered_totals key (with_node id) first second entered f all) touches differ;
          own = own_kept touched u true first third since;
          reads = let more = (climbs (entered_tree key (with_node id) first second entered f tree) (λ x t. (touches x t).0)).0 in omega (arith, few, more);
          totals_beside = λ y none. (climbs (entered_tree key (with_node id) first second entered f tree) (λ x t. (touches x t).0)).1 y none ∙ entered_total first second entered.held (Below y);
          top = untouched touched (with_same u true) first third since Top (touched_top id (slice_get (holders_at first key) 0) (length (holders_at first key)));
          beside = λ x none. untouched touched (with_same u true) first third since (Below x) (not_both (touched (Below x)) (λ t.
              absurd (let some = (why x t).0 in omega (arith, some, none))));
        }
      where
        since : ChangesAt touched (with_same u true) first third
        since =
            subst (λ (k : ℕ). ChangesAt (is_touched id (slice_get (holders_at first key) 0) k) (with_same u true) first third) is_n
            (subst (λ (o : Option NodeId). ChangesAt (is_touched id o n) (with_same u true) first third) is_fellow
            (told_since (is_touched id fellow n) (with_same u true) first second third told_before told))

        -- who is touched stands in the forest, without the flag
        why : (x : NodeId) → touched (Below x) ≡ true → (0 < times x.0 f) × (slice_get (same_at first x) u ≡ Some false)
        why x t = by (eqb id.0 x.0) refl
          where
            by : (b : Bool) → eqb id.0 x.0 ≡ b → (0 < times x.0 f) × (slice_get (same_at first x) u ≡ Some false)
            by true e =
                subst (λ (y : NodeId). (0 < times y.0 f) × (slice_get (same_at first y) u ≡ Some false)) (ap (λ (i : ℕ). record { 0 = i }) (eqb-true id.0 x.0 e)) (
                  stands_there,
                  some_flag (same_at first id) u false wide
                      (agrees.tells.flags id u stands_there ∙ ap (is_shared first) (ap (keys id.0) (sym (ap slot_for is_flag)) ∙ free)),
                )
            by false e =
                let so = touched_why id (holders_at first key) x t e in
                let has = holds first keys f agrees.index key x.0 so.0 in
                let slot = in_slot (keys x.0 (slot_of key)) key has in
                let at : keys x.0 (suc u) ≡ Some slot.0 = ap (keys x.0) (sym (ap slot_for is_flag)) ∙ slot.1 in (
                  key_stands first keys f agrees.index x.0 key has,
                  some_flag (same_at first x) u false (agrees.tells.wide x u slot.0 at)
                      (agrees.tells.flags x u (key_stands first keys f agrees.index x.0 key has)
                      ∙ (ap (is_shared first) at ∙ (ap (λ o. ltb 1 (length (option_map_or (λ e. e.nodes) o []))) (sym (laws.found first key slot.0 slot.2))
                      ∙ ap (ltb 1) so.1))),
                )

        touches : (x : NodeId) → is_touched id fellow n (Below x) ≡ true → StandsIn (Below x) f × (slice_get (same_at second x) u ≡ Some false)
        touches x t =
            let so = why x (ap (λ o. is_touched id o (length (holders_at first key)) (Below x)) (sym is_fellow) ∙ (ap (λ k. is_touched id fellow k (Below x)) (sym is_n) ∙ t)) in
            (so.0, ap (λ o. slice_get (option_map_or (λ held. held.told.same) o []) u) (entered.held (Below x)) ∙ so.1)

        differ : option_map_or (λ (o : NodeId). eqb id.0 o.0) fellow false ≡ false
        differ = ap (λ o. option_map_or (λ (o : NodeId). eqb id.0 o.0) o false) is_fellow ∙ by (slice_get (holders_at first key) 0) refl
          where
            by : (o : Option NodeId) → slice_get (holders_at first key) 0 ≡ o → option_map_or (λ (o : NodeId). eqb id.0 o.0) o false ≡ false
            by None e = refl
            by (Some y) e =
                not_both (eqb id.0 y.0) (λ same.
                false≢true (sym not_held ∙ holds first keys f agrees.index key id.0
                (subst (λ k. 1 ≤ among k (holders_at first key)) (sym (eqb-true id.0 y.0 same)) (first_among (holders_at first key) y e))))

    pub joined_value : (b : Bool) → flag_of key ≡ None → judged_at first id ≡ Some Right → eqb (found_at first key) 0 ≡ b
        → ChangesAt (λ row. b && same_row (Below id) row) (with_judged Missing) second third
        → (IsTree second f → Totals second f → StandsIn (Below id) f → option_map is_told (judged_at second id) ≡ Some false → Totals third f)
        → reads second ≤ reads first + 2 → (IsTree second f → StandsIn (Below id) f → (reads third ≤ reads second + levels f) × ((y : NodeId) → times y.0 f ≡ 0 → total_at third (Below y) ≡ total_at second (Below y)))
        → Follows (two_climbs f) (with_key id.0 (slot_of key) (Some key) keys) f first third
    joined_value b is_value right is_b told totals few climbs =
        record {
          agrees = record { index = index; tells = tells };
          totals = totals (entered_tree key (with_node id) first second entered f tree) (entered_totals key (with_node id) first second entered f all) stands_there
              (ap (option_map is_told) (ap (option_map (λ t. t.judged)) (told_before (Below id)) ∙ right));
          own = own_judged (touched_if b) Missing first third since refl (λ row t. own_right row t);
          reads = let more = (climbs (entered_tree key (with_node id) first second entered f tree) stands_there).0 in omega (arith, few, more);
          totals_beside = λ y none. (climbs (entered_tree key (with_node id) first second entered f tree) stands_there).1 y none ∙ entered_total first second entered.held (Below y);
          top = untouched (touched_if b) (with_judged Missing) first third since Top (not_this b);
          beside = λ x none. untouched (touched_if b) (with_judged Missing) first third since (Below x) (not_both (touched_if b (Below x)) (λ t.
              absurd (let same = ap (λ k. times k f) (eqb-true id.0 x.0 (and_second b (same_row (Below id) (Below x)) t)) in
              omega (arith, same, none, stands_there))));
        }
      where
        and_second : (a c : Bool) → (a && c) ≡ true → c ≡ true
        and_second true c e = e
        and_second false c e = absurd (false≢true e)

        since : ChangesAt (touched_if b) (with_judged Missing) first third
        since = told_since (touched_if b) (with_judged Missing) first second third told_before told

        own_right : (row : Row) → (touched_if b) row ≡ true → option_map (λ t. wrong_of t.judged) (told_at first row) ≡ Some None
        own_right row t =
            subst (λ r. option_map (λ t. wrong_of t.judged) (told_at first r) ≡ Some None) (same_rows (Below id) row (and_second b (same_row (Below id) row) t))
            (by (told_at first (Below id)) right)
          where
            by : (o : Option Told) → option_map (λ t. t.judged) o ≡ Some Right → option_map (λ t. wrong_of t.judged) o ≡ Some None
            by (Some t) e = ap (option_map wrong_of) e
            by None e = absurd (none-some Right e)

        slot_is : slot_of key ≡ 0
        slot_is = ap slot_for is_value

        other_flags : (x : NodeId) (v : ℕ) → with_key id.0 (slot_of key) (Some key) keys x.0 (suc v) ≡ keys x.0 (suc v)
        other_flags x v = with_other_slot id.0 (slot_of key) (Some key) keys x.0 (suc v) (ne_eqb (suc v) (slot_of key) (λ same. absurd (let s = slot_is in omega (arith, same, s))))

        other_holders : (x : NodeId) (v : ℕ) (k : Key) → keys x.0 (suc v) ≡ Some k → holders_at third k ≡ holders_at first k
        other_holders x v k e =
            else k (not_both (same_key key k) (λ same. absurd (let a = laws.slots key k same in let c = agrees.index.slots x.0 (suc v) k e in let s = slot_is in omega (arith, a, c, s))))

        judged : (x : NodeId) → 0 < times x.0 f → (c : Bool) → eqb id.0 x.0 ≡ c → IsJudged third (with_key id.0 (slot_of key) (Some key) keys x.0 0) (judged_at third x)
        judged x there false e =
            subst (λ o. IsJudged third o (judged_at third x)) (sym (with_other_number id.0 (slot_of key) (Some key) keys x.0 0 (ne_eqb x.0 id.0 (λ same. eqb-false id.0 x.0 e (sym same)))))
            (judged_same first third keys f (keys x.0 0) (judged_at first x) (judged_at third x) instances
            (judged_else (touched_if b) Missing first third since x (ap (λ c. b && c) e ∙ and_no b)) (agrees.tells.judged x there))
          where
            and_no : (c : Bool) → (c && false) ≡ false
            and_no true = refl
            and_no false = refl
        judged x there true e =
            subst (λ o. IsJudged third o (judged_at third x)) (sym (with_here id.0 (slot_of key) (Some key) keys x.0 0 (sym (eqb-true id.0 x.0 e)) (sym slot_is)))
            (subst (λ (y : NodeId). judged_at third y ≡ Some (judged_by (found_at third key))) (ap (λ (i : ℕ). record { 0 = i }) (eqb-true id.0 x.0 e))
            (by b refl ∙ sym (ap (λ n. Some (judged_by n)) (found_same first third instances key) ∙ ap (λ c. Some (cond c Missing Right)) is_b)))
          where
            by : (c : Bool) → b ≡ c → judged_at third id ≡ Some (cond b Missing Right)
            by true c = judged_new (touched_if b) Missing first third since id Right (ap (λ d. d && same_row (Below id) (Below id)) c ∙ itself (Below id)) right ∙ sym (ap (λ d. Some (cond d Missing Right)) c)
            by false c = judged_else (touched_if b) Missing first third since id (ap (λ d. d && same_row (Below id) (Below id)) c) ∙ (right ∙ sym (ap (λ d. Some (cond d Missing Right)) c))

        tells : Tells third (with_key id.0 (slot_of key) (Some key) keys) f
        tells =
            record {
              flags = λ x v there.
                  ap (λ bs. unwrap_or (slice_get bs v) false) (same_still (touched_if b) Missing first third since x)
                  ∙ (agrees.tells.flags x v there ∙ (sym (shared_same first third keys f (keys x.0 (suc v)) (other_holders x v)) ∙ ap (is_shared third) (sym (other_flags x v))));
              wide = λ x v k e. let was = agrees.tells.wide x v k (sym (other_flags x v) ∙ e) in let long = ap length (same_still (touched_if b) Missing first third since x) in omega (arith, was, long);
              judged = λ x there. judged x there (eqb id.0 x.0) refl;
            }

  -- ---- a node leaves

  module _ (entered : Enters key (without_node id) first second) (has : has_key keys id.0 key ≡ true) where
    gone : ChangesKey key (without_node id) first third
    gone = key_changed key (without_node id) first second third entered only

    fewer : (other : Key) → same_key key other ≡ true → holders_at third other ≡ without id (holders_at first other)
    fewer = holders_here laws key (without_node id) first third gone.changed gone.others (without id) (λ e. refl) (λ none. refl)

    others_stay : (other : Key) → same_key key other ≡ false → holders_at third other ≡ holders_at first other
    others_stay = holders_else laws key (without_node id) first third gone.changed gone.others

    instances_stay : (other : Key) → instances_at third other ≡ instances_at first other
    instances_stay = instances_same laws key (without_node id) first third gone.changed gone.others (λ e. refl)

    index_left : Indexes third (with_key id.0 (slot_of key) None keys) f
    index_left = left laws key id keys f first third agrees.index others_stay has fewer

    told_stays : (row : Row) → told_at second row ≡ told_at first row
    told_stays = entered_told key (without_node id) first second entered

    stood : 0 < times id.0 f
    stood = key_stands first keys f agrees.index id.0 key has

    its_key : (k : Key) × (keys id.0 (slot_of key) ≡ Some k) × (same_key key k ≡ true)
    its_key = in_slot (keys id.0 (slot_of key)) key has

    abbrev touched_left : Row → Bool
    touched_left = is_touched id (slice_get (holders_at third key) 0) (length (holders_at third key))

    abbrev left_if : Bool → Row → Bool
    left_if b row = b && same_row (Below id) row

    among_id : 1 ≤ among id.0 (holders_at first key)
    among_id = let one = held first keys f agrees.index key id.0 has in omega (arith, one)

    shorter : length (holders_at third key) + 1 ≡ length (holders_at first key)
    shorter = ap (λ ids. length ids + 1) (fewer key (laws.itself key)) ∙ long_less id (holders_at first key) among_id

    pub left_fellows : (u : ℕ) (fellow : Option NodeId) (n : ℕ) → flag_of key ≡ Some u
        → fellow ≡ slice_get (holders_at second key) 0 → n ≡ length (holders_at second key)
        → ChangesAt (is_touched id fellow n) (with_same u false) second third
        → (IsTree second f → Totals second f
        → ((x : NodeId) → is_touched id fellow n (Below x) ≡ true → StandsIn (Below x) f × (slice_get (same_at second x) u ≡ Some true))
        → option_map_or (λ (o : NodeId). eqb id.0 o.0) fellow false ≡ false → Totals third f)
        → reads second ≤ reads first + 2
        → (IsTree second f → ((x : NodeId) → is_touched id fellow n (Below x) ≡ true → StandsIn (Below x) f) → (reads third ≤ reads second + 2 * levels f) × ((y : NodeId) → times y.0 f ≡ 0 → total_at third (Below y) ≡ total_at second (Below y)))
        → Follows (two_climbs f) (with_key id.0 (slot_of key) None keys) f first third
    left_fellows u fellow n is_flag fellow_second n_second told totals few climbs =
        record {
          agrees = record { index = index_left; tells = tells_left laws key id u keys f first third agrees is_flag others_stay instances_stay has fewer since };
          totals = totals (entered_tree key (without_node id) first second entered f tree) (entered_totals key (without_node id) first second entered f all) touches differ;
          own = own_kept touched_left u false first third since;
          reads = let more = (climbs (entered_tree key (without_node id) first second entered f tree) (λ x t. (touches x t).0)).0 in omega (arith, few, more);
          totals_beside = λ y none. (climbs (entered_tree key (without_node id) first second entered f tree) (λ x t. (touches x t).0)).1 y none ∙ entered_total first second entered.held (Below y);
          top = untouched touched_left (with_same u false) first third since Top (touched_top id (slice_get (holders_at third key) 0) (length (holders_at third key)));
          beside = λ x none. untouched touched_left (with_same u false) first third since (Below x) (not_both (touched_left (Below x)) (λ t.
              absurd (let some = (why x t).0 in omega (arith, some, none))));
        }
      where
        holders_now : holders_at third key ≡ holders_at second key
        holders_now = ap (λ o. option_map_or (λ e. e.nodes) o []) (only.entries key)

        is_fellow : fellow ≡ slice_get (holders_at third key) 0
        is_fellow = fellow_second ∙ ap (λ ids. slice_get ids 0) (sym holders_now)

        is_n : n ≡ length (holders_at third key)
        is_n = n_second ∙ ap length (sym holders_now)

        since : ChangesAt touched_left (with_same u false) first third
        since =
            subst (λ (k : ℕ). ChangesAt (is_touched id (slice_get (holders_at third key) 0) k) (with_same u false) first third) is_n
            (subst (λ (o : Option NodeId). ChangesAt (is_touched id o n) (with_same u false) first third) is_fellow
            (told_since (is_touched id fellow n) (with_same u false) first second third told_stays told))

        flagged : (x : NodeId) (k : Key) → 0 < times x.0 f → keys x.0 (slot_of key) ≡ Some k → same_key key k ≡ true → 2 ≤ length (holders_at first key)
            → slice_get (same_at first x) u ≡ Some true
        flagged x k there e same long =
            let at : keys x.0 (suc u) ≡ Some k = ap (keys x.0) (sym (ap slot_for is_flag)) ∙ e in
            some_flag (same_at first x) u true (agrees.tells.wide x u k at)
            (agrees.tells.flags x u there
            ∙ (ap (is_shared first) at ∙ (ap (λ o. ltb 1 (length (option_map_or (λ e. e.nodes) o []))) (sym (laws.found first key k same))
            ∙ lt-ltb 1 (length (holders_at first key)) (omega (arith, long)))))

        -- who is touched stands in the forest, with the flag
        why : (x : NodeId) → touched_left (Below x) ≡ true → (0 < times x.0 f) × (slice_get (same_at first x) u ≡ Some true)
        why x t = by (eqb id.0 x.0) refl
          where
            by : (b : Bool) → eqb id.0 x.0 ≡ b → (0 < times x.0 f) × (slice_get (same_at first x) u ≡ Some true)
            by true e =
                subst (λ (y : NodeId). (0 < times y.0 f) × (slice_get (same_at first y) u ≡ Some true)) (ap (λ (i : ℕ). record { 0 = i }) (eqb-true id.0 x.0 e)) (
                  stood,
                  flagged id its_key.0 stood its_key.1 its_key.2 (long (length (holders_at third key)) refl),
                )
              where
                at_id : touched_left (Below id) ≡ true
                at_id = ap (λ (i : ℕ). touched_left (Below (record { 0 = i }))) (eqb-true id.0 x.0 e) ∙ t

                long : (m : ℕ) → length (holders_at third key) ≡ m → 2 ≤ length (holders_at first key)
                long zero none = absurd (false≢true (sym (touched_itself id (holders_at third key) ∙ ap (ltb 0) none) ∙ at_id))
                long (suc m) some = let less = shorter in omega (arith, some, less)
            by false e =
                let so = touched_why id (holders_at third key) x t e in
                let less = among_less id (holders_at first key) among_id x.0 in
                let now = ap (among x.0) (fewer key (laws.itself key)) in
                let none : mark (eqb id.0 x.0) ≡ 0 = ap mark e in
                let some : 1 ≤ among x.0 (holders_at first key) = let a = so.0 in omega (arith, a, less, now, none) in
                let holds_it = holds first keys f agrees.index key x.0 some in
                let slot = in_slot (keys x.0 (slot_of key)) key holds_it in
                let there = key_stands first keys f agrees.index x.0 key holds_it in
                (there, flagged x slot.0 there slot.1 slot.2 (let l = shorter in let o = so.1 in omega (arith, l, o)))

        touches : (x : NodeId) → is_touched id fellow n (Below x) ≡ true → StandsIn (Below x) f × (slice_get (same_at second x) u ≡ Some true)
        touches x t =
            let so = why x (ap (λ o. is_touched id o (length (holders_at third key)) (Below x)) (sym is_fellow) ∙ (ap (λ k. is_touched id fellow k (Below x)) (sym is_n) ∙ t)) in
            (so.0, ap (λ o. slice_get (option_map_or (λ held. held.told.same) o []) u) (entered.held (Below x)) ∙ so.1)

        not_now : has_key (with_key id.0 (slot_of key) None keys) id.0 key ≡ false
        not_now = ap (λ o. option_map_or (same_key key) o false) (with_here id.0 (slot_of key) None keys id.0 (slot_of key) refl refl)

        differ : option_map_or (λ (o : NodeId). eqb id.0 o.0) fellow false ≡ false
        differ = ap (λ o. option_map_or (λ (o : NodeId). eqb id.0 o.0) o false) is_fellow ∙ by (slice_get (holders_at third key) 0) refl
          where
            by : (o : Option NodeId) → slice_get (holders_at third key) 0 ≡ o → option_map_or (λ (o : NodeId). eqb id.0 o.0) o false ≡ false
            by None e = refl
            by (Some y) e =
                not_both (eqb id.0 y.0) (λ same.
                false≢true (sym not_now ∙ holds third (with_key id.0 (slot_of key) None keys) f index_left key id.0
                (subst (λ k. 1 ≤ among k (holders_at third key)) (sym (eqb-true id.0 y.0 same)) (first_among (holders_at third key) y e))))

    pub left_value : (b : Bool) → flag_of key ≡ None → eqb (found_at first key) 0 ≡ b
        → ChangesAt (λ row. b && same_row (Below id) row) (with_judged Right) second third
        → (IsTree second f → Totals second f → StandsIn (Below id) f → option_map is_told (judged_at second id) ≡ Some b → Totals third f)
        → reads second ≤ reads first + 2 → (IsTree second f → StandsIn (Below id) f → (reads third ≤ reads second + levels f) × ((y : NodeId) → times y.0 f ≡ 0 → total_at third (Below y) ≡ total_at second (Below y)))
        → Follows (two_climbs f) (with_key id.0 (slot_of key) None keys) f first third
    left_value b is_value is_b told totals few climbs =
        record {
          agrees = record { index = index_left; tells = tells };
          totals = totals (entered_tree key (without_node id) first second entered f tree) (entered_totals key (without_node id) first second entered f all) stood
              (ap (option_map is_told) (ap (option_map (λ t. t.judged)) (told_stays (Below id)) ∙ was) ∙ told_if b);
          own = own_judged (left_if b) Right first third since refl (λ row t. own_right row t);
          reads = let more = (climbs (entered_tree key (without_node id) first second entered f tree) stood).0 in omega (arith, few, more);
          totals_beside = λ y none. (climbs (entered_tree key (without_node id) first second entered f tree) stood).1 y none ∙ entered_total first second entered.held (Below y);
          top = untouched (left_if b) (with_judged Right) first third since Top (not_this b);
          beside = λ x none. untouched (left_if b) (with_judged Right) first third since (Below x) (not_both (left_if b (Below x)) (λ t.
              absurd (let same = ap (λ k. times k f) (eqb-true id.0 x.0 (and_second b (same_row (Below id) (Below x)) t)) in let there = stood in
              omega (arith, same, none, there))));
        }
      where
        told_if : (c : Bool) → option_map is_told (Some (cond c Missing Right)) ≡ Some c
        told_if true = refl
        told_if false = refl

        and_second : (a c : Bool) → (a && c) ≡ true → c ≡ true
        and_second true c e = e
        and_second false c e = absurd (false≢true e)

        since : ChangesAt (left_if b) (with_judged Right) first third
        since = told_since (left_if b) (with_judged Right) first second third told_stays told

        slot_is : slot_of key ≡ 0
        slot_is = ap slot_for is_value

        was : judged_at first id ≡ Some (cond b Missing Right)
        was =
            subst (λ o. IsJudged first o (judged_at first id)) (ap (keys id.0) (sym slot_is) ∙ its_key.1) (agrees.tells.judged id stood)
            ∙ (ap (λ n. Some (judged_by n)) (sym (found_alike first key its_key.0 its_key.2 (laws.found first key its_key.0 its_key.2)))
            ∙ ap (λ c. Some (cond c Missing Right)) is_b)

        own_right : (row : Row) → left_if b row ≡ true → option_map (λ t. wrong_of t.judged) (told_at first row) ≡ Some None
        own_right row t =
            subst (λ r. option_map (λ t. wrong_of t.judged) (told_at first r) ≡ Some None) (same_rows (Below id) row (and_second b (same_row (Below id) row) t))
            (by (told_at first (Below id)) was ∙ not_wrong b)
          where
            by : (o : Option Told) → option_map (λ t. t.judged) o ≡ Some (cond b Missing Right) → option_map (λ t. wrong_of t.judged) o ≡ Some (wrong_of (cond b Missing Right))
            by (Some t) e = ap (option_map wrong_of) e
            by None e = absurd (none-some (cond b Missing Right) e)

            not_wrong : (c : Bool) → Some (wrong_of (cond c Missing Right)) ≡ Some None
            not_wrong true = refl
            not_wrong false = refl

        other_flags : (x : NodeId) (v : ℕ) → with_key id.0 (slot_of key) None keys x.0 (suc v) ≡ keys x.0 (suc v)
        other_flags x v = with_other_slot id.0 (slot_of key) None keys x.0 (suc v) (ne_eqb (suc v) (slot_of key) (λ same. absurd (let s = slot_is in omega (arith, same, s))))

        other_holders : (x : NodeId) (v : ℕ) (k : Key) → keys x.0 (suc v) ≡ Some k → holders_at third k ≡ holders_at first k
        other_holders x v k e =
            others_stay k (not_both (same_key key k) (λ same. absurd (let a = laws.slots key k same in let c = agrees.index.slots x.0 (suc v) k e in let s = slot_is in omega (arith, a, c, s))))

        judged : (x : NodeId) → 0 < times x.0 f → (c : Bool) → eqb id.0 x.0 ≡ c → IsJudged third (with_key id.0 (slot_of key) None keys x.0 0) (judged_at third x)
        judged x there false e =
            subst (λ o. IsJudged third o (judged_at third x)) (sym (with_other_number id.0 (slot_of key) None keys x.0 0 (ne_eqb x.0 id.0 (λ same. eqb-false id.0 x.0 e (sym same)))))
            (judged_same first third keys f (keys x.0 0) (judged_at first x) (judged_at third x) instances_stay
            (judged_else (left_if b) Right first third since x (ap (λ c. b && c) e ∙ and_no b)) (agrees.tells.judged x there))
          where
            and_no : (c : Bool) → (c && false) ≡ false
            and_no true = refl
            and_no false = refl
        judged x there true e =
            subst (λ o. IsJudged third o (judged_at third x)) (sym (with_here id.0 (slot_of key) None keys x.0 0 (sym (eqb-true id.0 x.0 e)) (sym slot_is)))
            (subst (λ (y : NodeId). option_map_or is_missing (judged_at third y) false ≡ false) (ap (λ (i : ℕ). record { 0 = i }) (eqb-true id.0 x.0 e))
            (ap (λ j. option_map_or is_missing j false) (by b refl)))
          where
            by : (c : Bool) → b ≡ c → judged_at third id ≡ Some Right
            by true c = judged_new (left_if b) Right first third since id (cond b Missing Right) (ap (λ d. d && same_row (Below id) (Below id)) c ∙ itself (Below id)) was
            by false c = judged_else (left_if b) Right first third since id (ap (λ d. d && same_row (Below id) (Below id)) c) ∙ (was ∙ ap (λ d. Some (cond d Missing Right)) c)

        tells : Tells third (with_key id.0 (slot_of key) None keys) f
        tells =
            record {
              flags = λ x v there.
                  ap (λ bs. unwrap_or (slice_get bs v) false) (same_still (left_if b) Right first third since x)
                  ∙ (agrees.tells.flags x v there ∙ (sym (shared_same first third keys f (keys x.0 (suc v)) (other_holders x v)) ∙ ap (is_shared third) (sym (other_flags x v))));
              wide = λ x v k e. let was = agrees.tells.wide x v k (sym (other_flags x v) ∙ e) in let long = ap length (same_still (left_if b) Right first third since x) in omega (arith, was, long);
              judged = λ x there. judged x there (eqb id.0 x.0) refl;
            }

pub holders_read : (before after : Nodes) (key : Key) → OnlyReads before after → holders_at after key ≡ holders_at before key
holders_read before after key reads = ap (λ o. option_map_or (λ e. e.nodes) o []) (reads.entries key)

pub instances_read : (before after : Nodes) (key : Key) → OnlyReads before after → instances_at after key ≡ instances_at before key
instances_read before after key reads = ap (λ o. option_map_or (λ e. e.instances) o 0) (reads.entries key)

pub entered_instances : (laws : AreKeys) (key : Key) (change : Entry → Entry) (before after : Nodes) → Enters key change before after
    → ((e : Entry) → (change e).instances ≡ e.instances) → instances_at after key ≡ instances_at before key
entered_instances laws key change before after e leaves = instances_same laws key change before after e.changed e.others leaves key
