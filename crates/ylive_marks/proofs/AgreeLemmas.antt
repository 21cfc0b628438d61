-- What agrees with an index, where neither changes.
use Rattle.std.proofs.lemmas.List.Sums.{sum_by-cons}
use Rattle.std.specs.List.{sum_by}
use Rattle.ystore.specs.declared.record.Judged.TheVariants.{Right, Wrong, Missing}
use Rattle.std.proofs.Common.{ltb, ◌≡◌, ℕ, zero, suc, ◌+◌, ◌<◌, ◌≤◌, Bool, true, false, ◌&&◌, List, [], ◌∷◌, length, Option, Some, None, option_map, slice_get, refl, sym, ap, ◌∙◌, arith, subst, cond, eqb, min, ◌-◌, ◌^◌, is_some}
use Rattle.std.specs.Prelude.{unwrap_or, IfSome}
use Rattle.std.specs.Option.{option_map_or}
use Rattle.std.proofs.lemmas.Bool.{eq-eqb, eqb-true, eqb-false, ne_eqb, false≢true}
use Rattle.std.proofs.lemmas.Option.{none-some, same_Some}
use Rattle.yspec.specs.Forest.{end, node, weigh}
use Rattle.ycheck.specs.declared.fault.FaultCode.{FaultCode}
use Rattle.yschema_model.specs.declared.node.SchemaId.{SchemaId}
use Rattle.ystore.specs.Held.{Told, with_judged, with_play}
use Rattle.ystore.specs.Entries as entries
use Rattle.ystore.specs.Entries.{Entry, with_awaited, with_instance, without_instance}
use Rattle.ystore.specs.Index.{made_ready, tidied}
use Rattle.ystore.specs.Store.{held_at, entry_at, same_at, total_at, holders_at, instances_at, same_row, same_key, ChangesEntry}
use Rattle.ystore_rows.specs.declared.row.NodeId.{NodeId}
use Rattle.ystore_rows.specs.declared.row.Row.{Row}
use Rattle.ystore_rows.specs.declared.row.Row.TheVariants.{Top, Below}
use Rattle.ystore.specs.declared.key.Key.{Key}
use Rattle.ystore.specs.declared.record.Judged.{Judged}
use Rattle.ystore.specs.declared.nodes.Nodes.{Nodes}
use Rattle.ystore_tree.specs.Hanging.{Numbered, Branches, is_number, times}
use Rattle.ystore_tree.specs.Changes.{SameShapes}
use Rattle.ylive_marks.specs.Totals.{ChangesTold, IsFew, StandsIn, Totals, judged_at, number_of, told_at, TellsNothing, is_told}
use Rattle.ylive_marks.specs.Keys.{AreKeys, Agrees, ChangesKey, Indexes, IsSimilar, IsJudged, Keys, SameKeys, TellsNoKey, among, flag_at, has_key, is_missing, is_shared, judged_by, slot_of}
use Rattle.ylive_marks.proofs.KeyLemmas.{found_alike}
use Rattle.ylive_marks.proofs.TotalLemmas.{are_same, mark, told_same}
use Rattle.ylive_marks.proofs.TellLemmas.{flags_seen}
use Rattle.ylive_marks.proofs.IndexLemmas.{among-cons, holds, instances_same, key_stands, stands}
use Rattle.ylive_marks.proofs.FellowLemmas.{judged_same, shared_same, told_where}

-- ---- keys

pub keys_on : (first second third : Nodes) → SameKeys first second → SameKeys second third → SameKeys first third
keys_on first second third a b = record { holders = λ key. b.holders key ∙ a.holders key; instances = λ key. b.instances key ∙ a.instances key }

pub entries_keys : (before after : Nodes) → ((key : Key) → entry_at after key ≡ entry_at before key) → SameKeys before after
entries_keys before after same =
    record {
      holders = λ key. ap (λ o. option_map_or (λ e. e.nodes) o []) (same key);
      instances = λ key. ap (λ o. option_map_or (λ e. e.instances) o 0) (same key);
    }

-- an entry that changes but for the instances and nodes
module _ (laws : AreKeys) (key : Key) (change : Option Entry → Option Entry) (before after : Nodes) (changes : ChangesEntry key change before after)
    (nodes : (o : Option Entry) → option_map_or (λ e. e.nodes) (change o) [] ≡ option_map_or (λ e. e.nodes) o [])
    (instances : (o : Option Entry) → option_map_or (λ e. e.instances) (change o) 0 ≡ option_map_or (λ e. e.instances) o 0) where
  pub changed_keys : SameKeys before after
  changed_keys = record { holders = λ other. holders other (same_key key other) refl; instances = λ other. counts other (same_key key other) refl }
    where
      here : (other : Key) → same_key key other ≡ true → entry_at after other ≡ change (entry_at before other)
      here other e = sym (laws.found after key other e) ∙ (changes.changed ∙ ap change (laws.found before key other e))

      holders : (other : Key) (b : Bool) → same_key key other ≡ b → holders_at after other ≡ holders_at before other
      holders other true e = ap (λ o. option_map_or (λ e. e.nodes) o []) (here other e) ∙ nodes (entry_at before other)
      holders other false e = ap (λ o. option_map_or (λ e. e.nodes) o []) (changes.others other e)

      counts : (other : Key) (b : Bool) → same_key key other ≡ b → instances_at after other ≡ instances_at before other
      counts other true e = ap (λ o. option_map_or (λ e. e.instances) o 0) (here other e) ∙ instances (entry_at before other)
      counts other false e = ap (λ o. option_map_or (λ e. e.instances) o 0) (changes.others other e)

module _ (laws : AreKeys) (key : Key) (before after : Nodes) where
  pub ready_keys : (change : Entry → Entry) → ((e : Entry) → (change e).nodes ≡ e.nodes) → ((e : Entry) → (change e).instances ≡ e.instances)
      → ChangesEntry key (made_ready change) before after → SameKeys before after
  ready_keys change nodes instances changes = changed_keys laws key (made_ready change) before after changes holders counts
    where
      holders : (o : Option Entry) → option_map_or (λ e. e.nodes) (made_ready change o) [] ≡ option_map_or (λ e. e.nodes) o []
      holders (Some e) = nodes e
      holders None = nodes entries.none

      counts : (o : Option Entry) → option_map_or (λ e. e.instances) (made_ready change o) 0 ≡ option_map_or (λ e. e.instances) o 0
      counts (Some e) = instances e
      counts None = instances entries.none

  no_nodes : (ids : List NodeId) → length ids ≡ 0 → [] ≡ ids
  no_nodes [] e = refl
  no_nodes (x ∷ ids) e = absurd (omega (arith, e))

  and_first : (a b : Bool) → (a && b) ≡ true → (a ≡ true) × (b ≡ true)
  and_first true b e = (refl, e)
  and_first false b e = absurd (false≢true e)

  pub tidied_keys : ChangesEntry key tidied before after → SameKeys before after
  tidied_keys changes = changed_keys laws key tidied before after changes holders counts
    where
      idle : (e : Entry) → entries.is_idle e ≡ true → (e.instances ≡ 0) × (length e.nodes ≡ 0)
      idle e is =
          let one = and_first (eqb e.instances 0 && eqb (length e.nodes) 0) (eqb e.awaited 0) is in
          let two = and_first (eqb e.instances 0) (eqb (length e.nodes) 0) one.0 in
          (eqb-true e.instances 0 two.0, eqb-true (length e.nodes) 0 two.1)

      holders : (o : Option Entry) → option_map_or (λ e. e.nodes) (tidied o) [] ≡ option_map_or (λ e. e.nodes) o []
      holders (Some e) = by (entries.is_idle e) refl
        where
          by : (b : Bool) → entries.is_idle e ≡ b → option_map_or (λ e. e.nodes) (cond (entries.is_idle e) None (Some e)) [] ≡ e.nodes
          by true is = ap (λ b. option_map_or (λ e. e.nodes) (cond b None (Some e)) []) is ∙ no_nodes e.nodes (idle e is).1
          by false is = ap (λ b. option_map_or (λ e. e.nodes) (cond b None (Some e)) []) is
      holders None = refl

      counts : (o : Option Entry) → option_map_or (λ e. e.instances) (tidied o) 0 ≡ option_map_or (λ e. e.instances) o 0
      counts (Some e) = by (entries.is_idle e) refl
        where
          by : (b : Bool) → entries.is_idle e ≡ b → option_map_or (λ e. e.instances) (cond (entries.is_idle e) None (Some e)) 0 ≡ e.instances
          by true is = ap (λ b. option_map_or (λ e. e.instances) (cond b None (Some e)) 0) is ∙ sym (idle e is).0
          by false is = ap (λ b. option_map_or (λ e. e.instances) (cond b None (Some e)) 0) is
      counts None = refl

-- ---- agreements

module _ (before after : Nodes) (keys : Keys) (f : Branches) (same : SameKeys before after) (agrees : Agrees before keys f) where
  index_kept : Indexes after keys f
  index_kept =
      record {
        holders = λ key number. ap (among number) (same.holders key) ∙ agrees.index.holders key number;
        slots = agrees.index.slots;
        outside = agrees.index.outside;
      }

  pub agrees_kept : ((id : NodeId) → 0 < times id.0 f → same_at after id ≡ same_at before id)
      → ((id : NodeId) → 0 < times id.0 f → IsJudged before (keys id.0 0) (judged_at before id) → IsJudged after (keys id.0 0) (judged_at after id))
      → Agrees after keys f
  agrees_kept flags judged =
      record {
        index = index_kept;
        tells = record {
          flags = λ id u there.
              ap (λ bs. unwrap_or (slice_get bs u) false) (flags id there)
              ∙ (agrees.tells.flags id u there ∙ sym (shared_same before after keys f (keys id.0 (suc u)) (λ k e. same.holders k)));
          wide = λ id u key e. let was = agrees.tells.wide id u key e in let long = ap length (flags id (stands before keys f agrees.index id.0 (suc u) key e)) in omega (arith, was, long);
          judged = λ id there. judged id there (agrees.tells.judged id there);
        };
      }

  pub same_judged : (id : NodeId) → judged_at after id ≡ judged_at before id → IsJudged before (keys id.0 0) (judged_at before id) → IsJudged after (keys id.0 0) (judged_at after id)
  same_judged id e is = judged_same before after keys f (keys id.0 0) (judged_at before id) (judged_at after id) same.instances e is

same_flags : (before after : Nodes) (id : NodeId) → told_at after (Below id) ≡ told_at before (Below id) → same_at after id ≡ same_at before id
same_flags before after id e =
    flags_seen (held_at after (Below id)) ∙ (ap (λ o. option_map_or (λ t. t.same) o []) e ∙ sym (flags_seen (held_at before (Below id))))

pub agrees_told : (before after : Nodes) (keys : Keys) (f : Branches) → SameKeys before after
    → ((id : NodeId) → 0 < times id.0 f → told_at after (Below id) ≡ told_at before (Below id)) → Agrees before keys f → Agrees after keys f
agrees_told before after keys f same told agrees =
    agrees_kept before after keys f same agrees (λ id there. same_flags before after id (told id there))
    (λ id there is. same_judged before after keys f same agrees id (ap (option_map (λ t. t.judged)) (told id there)) is)

-- what is told at a row that leaves a part of it
part_left : {X : Type 0} (see : Told → X) (change : Told → Told) → ((t : Told) → see (change t) ≡ see t) → (row : Row) (before after : Nodes) → ChangesTold row change before after
    → (other : Row) → option_map see (told_at after other) ≡ option_map see (told_at before other)
part_left see change leaves row before after told other =
    ap (option_map see) (told_where row change before after told other) ∙ by (same_row row other) (told_at before other)
  where
    by : (b : Bool) (o : Option Told) → option_map see (cond b (option_map change o) o) ≡ option_map see o
    by true (Some t) = ap Some (leaves t)
    by true None = refl
    by false o = refl

flags_of : (o : Option Told) → option_map_or (λ t. t.same) o [] ≡ option_map_or (λ bs. bs) (option_map (λ t. t.same) o) []
flags_of (Some t) = refl
flags_of None = refl

flags_left : (change : Told → Told) → ((t : Told) → (change t).same ≡ t.same) → (row : Row) (before after : Nodes) → ChangesTold row change before after
    → (id : NodeId) → same_at after id ≡ same_at before id
flags_left change leaves row before after told id =
    flags_seen (held_at after (Below id)) ∙ (flags_of (told_at after (Below id))
    ∙ (ap (λ o. option_map_or (λ bs. bs) o []) (part_left (λ t. t.same) change leaves row before after told (Below id))
    ∙ (sym (flags_of (told_at before (Below id))) ∙ sym (flags_seen (held_at before (Below id))))))

pub agrees_play : (before after : Nodes) (keys : Keys) (f : Branches) (row : Row) (play : List (FaultCode × SchemaId)) → ChangesTold row (with_play play) before after
    → Agrees before keys f → Agrees after keys f
agrees_play before after keys f row play told agrees =
    let same = entries_keys before after told.kept.entries in
    agrees_kept before after keys f same agrees (λ id there. flags_left (with_play play) (λ t. refl) row before after told id)
    (λ id there is. same_judged before after keys f same agrees id (part_left (λ t. t.judged) (with_play play) (λ t. refl) row before after told (Below id)) is)

pub agrees_judged : (before after : Nodes) (keys : Keys) (f : Branches) (id : NodeId) (j : Judged) → ChangesTold (Below id) (with_judged j) before after
    → keys id.0 0 ≡ None → is_missing j ≡ false → Agrees before keys f → Agrees after keys f
agrees_judged before after keys f id j told none right agrees =
    agrees_kept before after keys f same agrees (λ x there. flags_left (with_judged j) (λ t. refl) (Below id) before after told x)
    (λ x there is. by x (eqb id.0 x.0) refl is)
  where
    same : SameKeys before after
    same = entries_keys before after told.kept.entries

    fine : (o : Option Told) → option_map_or is_missing (option_map (λ t. t.judged) (option_map (with_judged j) o)) false ≡ false
    fine (Some t) = right
    fine None = refl

    by : (x : NodeId) (b : Bool) → eqb id.0 x.0 ≡ b → IsJudged before (keys x.0 0) (judged_at before x) → IsJudged after (keys x.0 0) (judged_at after x)
    by x false e is = same_judged before after keys f same agrees x (ap (option_map (λ t. t.judged)) (told.others (Below x) e)) is
    by x true e is =
        subst (λ (y : NodeId). IsJudged after (keys y.0 0) (judged_at after y)) (ap (λ (i : ℕ). record { 0 = i }) (eqb-true id.0 x.0 e))
        (subst (λ o. IsJudged after o (judged_at after id)) (sym none)
        (ap (λ o. option_map_or is_missing (option_map (λ t. t.judged) o) false) told.changed ∙ fine (told_at before (Below id))))

pub agrees_forest : (nodes : Nodes) (keys : Keys) (f g : Branches) → Agrees nodes keys f
    → ((number slot : ℕ) → times number g ≡ 0 → keys number slot ≡ None)
    → ((id : NodeId) → 0 < times id.0 g → times id.0 f ≡ 0 → TellsNoKey nodes id) → Agrees nodes keys g
agrees_forest nodes keys f g agrees outside silent =
    record {
      index = record { holders = agrees.index.holders; slots = agrees.index.slots; outside = outside };
      tells = record {
        flags = λ id u there. flags id u there (times id.0 f) refl;
        wide = agrees.tells.wide;
        judged = λ id there. judged id there (times id.0 f) refl;
      };
    }
  where
    flags : (id : NodeId) (u : ℕ) → 0 < times id.0 g → (k : ℕ) → times id.0 f ≡ k → flag_at nodes id u ≡ is_shared nodes (keys id.0 (suc u))
    flags id u there zero e = (silent id there e).flags u ∙ sym (ap (is_shared nodes) (agrees.index.outside id.0 (suc u) e))
    flags id u there (suc k) e = agrees.tells.flags id u (omega (arith, e))

    judged : (id : NodeId) → 0 < times id.0 g → (k : ℕ) → times id.0 f ≡ k → IsJudged nodes (keys id.0 0) (judged_at nodes id)
    judged id there zero e = subst (λ o. IsJudged nodes o (judged_at nodes id)) (sym (agrees.index.outside id.0 0 e)) (silent id there e).judged
    judged id there (suc k) e = agrees.tells.judged id (omega (arith, e))

pub agrees_alike : (nodes : Nodes) (keys others : Keys) (f : Branches) → ((number slot : ℕ) → keys number slot ≡ others number slot) → Agrees nodes keys f → Agrees nodes others f
agrees_alike nodes keys others f alike agrees =
    record {
      index = record {
        holders = λ key number. agrees.index.holders key number ∙ ap (λ o. mark (option_map_or (same_key key) o false)) (alike number (slot_of key));
        slots = λ number slot key e. agrees.index.slots number slot key (alike number slot ∙ e);
        outside = λ number slot none. sym (alike number slot) ∙ agrees.index.outside number slot none;
      };
      tells = record {
        flags = λ id u there. agrees.tells.flags id u there ∙ ap (is_shared nodes) (alike id.0 (suc u));
        wide = λ id u key e. agrees.tells.wide id u key (alike id.0 (suc u) ∙ e);
        judged = λ id there. subst (λ o. IsJudged nodes o (judged_at nodes id)) (alike id.0 0) (agrees.tells.judged id there);
      };
    }

pub agrees_empty : (nodes : Nodes) (f : Branches) → ((key : Key) → holders_at nodes key ≡ [])
    → ((id : NodeId) → 0 < times id.0 f → TellsNoKey nodes id) → Agrees nodes (λ number slot. None) f
agrees_empty nodes f none silent =
    record {
      index = record {
        holders = λ key number. ap (among number) (none key);
        slots = λ number slot key e. absurd (none-some key e);
        outside = λ number slot e. refl;
      };
      tells = record {
        flags = λ id u there. (silent id there).flags u;
        wide = λ id u key e. absurd (none-some key e);
        judged = λ id there. (silent id there).judged;
      };
    }

-- ---- how many nodes hold a key

weigh_same : (v w : Numbered → ℕ) → ((n : Numbered) → v n ≡ w n) → (f : Branches) → weigh v f ≡ weigh w f
weigh_same v w same end = refl
weigh_same v w same (node n below after) =
    let here = same n in let a = weigh_same v w same below in let b = weigh_same v w same after in omega (arith, here, a, b)

weigh_sum : (u v w : Numbered → ℕ) → ((n : Numbered) → u n ≡ v n + w n) → (f : Branches) → weigh u f ≡ weigh v f + weigh w f
weigh_sum u v w same end = refl
weigh_sum u v w same (node n below after) =
    let here = same n in let a = weigh_sum u v w same below in let b = weigh_sum u v w same after in omega (arith, here, a, b)

weigh_none : (f : Branches) → weigh (λ _. 0) f ≡ 0
weigh_none end = refl
weigh_none (node n below after) = let a = weigh_none below in let b = weigh_none after in omega (arith, a, b)

turned : (a b : ℕ) → eqb a b ≡ eqb b a
turned a b = by (eqb b a) refl
  where
    by : (c : Bool) → eqb b a ≡ c → eqb a b ≡ eqb b a
    by true e = eq-eqb a b (sym (eqb-true b a e)) ∙ sym e
    by false e = ne_eqb a b (λ same. eqb-false b a e (sym same)) ∙ sym e

among_weigh : (xs : List NodeId) (f : Branches) → ((number : ℕ) → 1 ≤ among number xs → times number f ≡ 1) → weigh (λ n. among n.id.0 xs) f ≡ length xs
among_weigh [] f each = weigh_none f
among_weigh (x ∷ xs) f each =
    let parts = weigh_sum (λ n. among n.id.0 (x ∷ xs)) (λ n. mark (eqb x.0 n.id.0)) (λ n. among n.id.0 xs) (λ n. among-cons n.id.0 x xs) f in
    let one = weigh_same (λ n. mark (eqb x.0 n.id.0)) (is_number x.0) (λ n. ap mark (turned x.0 n.id.0)) f in
    let here = each x.0 (let count = among-cons x.0 x xs in let it : mark (eqb x.0 x.0) ≡ 1 = ap mark (eq-eqb x.0 x.0 refl) in omega (arith, count, it)) in
    let rest = among_weigh xs f (λ number some. each number (let count = among-cons number x xs in omega (arith, count, some))) in
    omega (arith, parts, one, here, rest)

pub holders_counted : (nodes : Nodes) (keys : Keys) (f : Branches) (key : Key) → Agrees nodes keys f → ((number : ℕ) → times number f ≤ 1)
    → length (holders_at nodes key) ≡ weigh (λ n. cond (has_key keys n.id.0 key) 1 0) f
holders_counted nodes keys f key agrees once =
    sym (among_weigh (holders_at nodes key) f (λ number some.
    let there = key_stands nodes keys f agrees.index number key (holds nodes keys f agrees.index key number some) in
    let most = once number in omega (arith, there, most)))
    ∙ weigh_same (λ n. among n.id.0 (holders_at nodes key)) (λ n. cond (has_key keys n.id.0 key) 1 0) (λ n. agrees.index.holders key n.id.0) f

-- ---- totals

pub totals_there : (before after : Nodes) (f : Branches) → ((row : Row) → StandsIn row f → told_at after row ≡ told_at before row)
    → ((row : Row) → StandsIn row f → total_at after row ≡ total_at before row) → ((row : Row) → IfSome (told_at after row) IsFew) → Totals before f → Totals after f
totals_there before after f told totals few all =
    record {
      top =
          let at = ap (λ o. option_map_or number_of o 0) (told Top tt) in let total = totals Top tt in let top = all.top in
          let rest = told_same before after f (λ id some. ap (λ o. option_map_or number_of o 0) (told (Below id) some)) in
          omega (arith, at, total, top, rest);
      below = are_same before after f (λ id some. ap (λ o. option_map_or number_of o 0) (told (Below id) some)) (λ id some. totals (Below id) some) all.below;
      small = record { few = all.small.few; each = few };
    }

-- ---- instances that come and go

module _ (laws : AreKeys) (key : Key) (before after : Nodes) where
  module _ (change : Entry → Entry) (changes : ChangesKey key change before after) where
    pub key_shapes : SameShapes before after
    key_shapes = record { shapes = changes.shapes; all = changes.node_count }

    pub still_instances : ((e : Entry) → (change e).instances ≡ e.instances) → (other : Key) → instances_at after other ≡ instances_at before other
    still_instances leaves = instances_same laws key change before after changes.changed changes.others leaves

    step_instances : (step : ℕ → ℕ) → ((e : Entry) → (change e).instances ≡ step e.instances) → is_some (entry_at before key) ≡ true
        → (other : Key) (b : Bool) → same_key key other ≡ b → instances_at after other ≡ cond b (step (instances_at before other)) (instances_at before other)
    step_instances step steps there other true e =
        ap (λ o. option_map_or (λ e. e.instances) o 0) (sym (laws.found after key other e) ∙ (changes.changed ∙ ap (option_map change) (laws.found before key other e)))
        ∙ by (entry_at before other) (ap is_some (sym (laws.found before key other e)) ∙ there)
      where
        by : (o : Option Entry) → is_some o ≡ true → option_map_or (λ e. e.instances) (option_map change o) 0 ≡ step (option_map_or (λ e. e.instances) o 0)
        by (Some e) there = steps e
        by None there = absurd (false≢true there)
    step_instances step steps there other false e = ap (λ o. option_map_or (λ e. e.instances) o 0) (changes.others other e)

  pub more_instances : ChangesKey key with_instance before after → is_some (entry_at before key) ≡ true → instances_at before key < 2 ^ 64 - 1
      → (other : Key) → instances_at after other ≡ instances_at before other + cond (same_key key other) 1 0
  more_instances changes there less other = by (same_key key other) refl
    where
      by : (b : Bool) → same_key key other ≡ b → instances_at after other ≡ instances_at before other + cond (same_key key other) 1 0
      by true e =
          let now : instances_at after other ≡ min (instances_at before other + 1) (2 ^ 64 - 1) =
          step_instances with_instance changes (λ n. min (n + 1) (2 ^ 64 - 1)) (λ e. refl) there other true e in
          let same = ap (λ o. option_map_or (λ e. e.instances) o 0) (laws.found before key other e) in
          let one : cond (same_key key other) 1 0 ≡ 1 = ap mark e in
          omega (arith, now, same, one, less)
      by false e =
          let now = step_instances with_instance changes (λ n. min (n + 1) (2 ^ 64 - 1)) (λ e. refl) there other false e in
          let none : cond (same_key key other) 1 0 ≡ 0 = ap mark e in
          omega (arith, now, none)

  pub fewer_instances : ChangesKey key without_instance before after → 1 ≤ instances_at before key
      → (other : Key) → instances_at after other + cond (same_key key other) 1 0 ≡ instances_at before other
  fewer_instances changes some other = by (same_key key other) refl
    where
      there : is_some (entry_at before key) ≡ true
      there = from (entry_at before key) some
        where
          from : (o : Option Entry) → 1 ≤ option_map_or (λ e. e.instances) o 0 → is_some o ≡ true
          from (Some e) some = refl
          from None some = absurd (omega (arith, some))

      by : (b : Bool) → same_key key other ≡ b → instances_at after other + cond (same_key key other) 1 0 ≡ instances_at before other
      by true e =
          let now : instances_at after other ≡ instances_at before other - 1 = step_instances without_instance changes (λ n. n - 1) (λ e. refl) there other true e in
          let same = ap (λ o. option_map_or (λ e. e.instances) o 0) (laws.found before key other e) in
          let one : cond (same_key key other) 1 0 ≡ 1 = ap mark e in
          omega (arith, now, same, one, some)
      by false e =
          let now = step_instances without_instance changes (λ n. n - 1) (λ e. refl) there other false e in
          let none : cond (same_key key other) 1 0 ≡ 0 = ap mark e in
          omega (arith, now, none)

-- ---- where nothing is told, no key tells anything

no_flags : (bs : List Bool) → sum_by (λ b. cond b 1 0) bs ≡ 0 → (u : ℕ) → unwrap_or (slice_get bs u) false ≡ false
no_flags [] none u = refl
no_flags (true ∷ bs) none u = absurd (let e = sum_by-cons (λ b. mark b) true bs in omega (arith, e, none))
no_flags (false ∷ bs) none zero = refl
no_flags (false ∷ bs) none (suc u) = no_flags bs (let e = sum_by-cons (λ b. mark b) false bs in omega (arith, e, none)) u

first_none : (a b c : ℕ) → a + (b + c) ≡ 0 → (a ≡ 0) × (b ≡ 0)
first_none a b c none = (omega (arith, none), omega (arith, none))

no_missing : (j : Judged) → mark (is_told j) ≡ 0 → is_missing j ≡ false
no_missing Right none = refl
no_missing (Wrong tag) none = refl
no_missing Missing none = absurd (omega (arith, none))

pub silent_keys : (nodes : Nodes) (f : Branches) → TellsNothing nodes f → (id : NodeId) → 0 < times id.0 f → TellsNoKey nodes id
silent_keys nodes f nothing id there =
    record {
      flags = λ u. ap (λ bs. unwrap_or (slice_get bs u) false) (flags_seen (held_at nodes (Below id))) ∙ flags (told_at nodes (Below id)) (nothing id there).0 u;
      judged = judged (told_at nodes (Below id)) (nothing id there).0;
    }
  where
    flags : (o : Option Told) → option_map_or number_of o 0 ≡ 0 → (u : ℕ) → unwrap_or (slice_get (option_map_or (λ t. t.same) o []) u) false ≡ false
    flags None none u = refl
    flags (Some t) none u = no_flags t.same (first_none (mark (is_told t.judged)) (sum_by (λ b. cond b 1 0) t.same) (length t.play) none).1 u

    judged : (o : Option Told) → option_map_or number_of o 0 ≡ 0 → option_map_or is_missing (option_map (λ t. t.judged) o) false ≡ false
    judged None none = refl
    judged (Some t) none = no_missing t.judged (first_none (mark (is_told t.judged)) (sum_by (λ b. cond b 1 0) t.same) (length t.play) none).0

-- ---- keys that are the same

module _ (laws : AreKeys) (nodes : Nodes) where
  turned_is : (key other : Key) → same_key key other ≡ same_key other key
  turned_is key other = by (same_key key other) refl (same_key other key) refl
    where
      by : (a : Bool) → same_key key other ≡ a → (b : Bool) → same_key other key ≡ b → same_key key other ≡ same_key other key
      by true e b d = e ∙ sym (laws.turned key other e)
      by false e true d = laws.turned other key d ∙ sym d
      by false e false d = e ∙ sym d

  similar_has : (key : Key) (o p : Option Key) → IsSimilar o p → option_map_or (same_key key) o false ≡ option_map_or (same_key key) p false
  similar_has key None None is = refl
  similar_has key (Some k) (Some l) is = turned_is key k ∙ (laws.alike k l key is ∙ turned_is l key)
  similar_has key None (Some l) is = absurd is
  similar_has key (Some k) None is = absurd is

  similar_shared : (o p : Option Key) → IsSimilar o p → is_shared nodes o ≡ is_shared nodes p
  similar_shared None None is = refl
  similar_shared (Some k) (Some l) is = ap (λ o. ltb 1 (length (option_map_or (λ e. e.nodes) o []))) (laws.found nodes k l is)
  similar_shared None (Some l) is = absurd is
  similar_shared (Some k) None is = absurd is

  similar_judged : (o p : Option Key) (j : Option Judged) → IsSimilar o p → IsJudged nodes o j → IsJudged nodes p j
  similar_judged None None j is judged = judged
  similar_judged (Some k) (Some l) j is judged = judged ∙ ap (λ n. Some (judged_by n)) (found_alike nodes k l is (laws.found nodes k l is))
  similar_judged None (Some l) j is judged = absurd is
  similar_judged (Some k) None j is judged = absurd is

  similar_none : (o p : Option Key) → IsSimilar o p → o ≡ None → p ≡ None
  similar_none None None is e = refl
  similar_none (Some k) (Some l) is e = absurd (none-some k (sym e))
  similar_none None (Some l) is e = absurd is
  similar_none (Some k) None is e = absurd is

  similar_some : (o p : Option Key) (l : Key) → IsSimilar o p → p ≡ Some l → (k : Key) × (o ≡ Some k) × (same_key k l ≡ true)
  similar_some None None l is e = absurd (none-some l e)
  similar_some (Some k) (Some m) l is e = (k, refl, ap (same_key k) (sym (same_Some m l e)) ∙ is)
  similar_some None (Some m) l is e = absurd is
  similar_some (Some k) None l is e = absurd is

  pub agrees_similar : (keys others : Keys) (f : Branches) → ((number slot : ℕ) → IsSimilar (keys number slot) (others number slot))
      → Agrees nodes keys f → Agrees nodes others f
  agrees_similar keys others f similar agrees =
      record {
        index = record {
          holders = λ key number. agrees.index.holders key number ∙ ap mark (similar_has key (keys number (slot_of key)) (others number (slot_of key)) (similar number (slot_of key)));
          slots = λ number slot key e.
              let was = similar_some (keys number slot) (others number slot) key (similar number slot) e in
              sym (laws.slots was.0 key was.2) ∙ agrees.index.slots number slot was.0 was.1;
          outside = λ number slot none. similar_none (keys number slot) (others number slot) (similar number slot) (agrees.index.outside number slot none);
        };
        tells = record {
          flags = λ id u there. agrees.tells.flags id u there ∙ similar_shared (keys id.0 (suc u)) (others id.0 (suc u)) (similar id.0 (suc u));
          wide = λ id u key e.
              let was = similar_some (keys id.0 (suc u)) (others id.0 (suc u)) key (similar id.0 (suc u)) e in
              agrees.tells.wide id u was.0 was.1;
          judged = λ id there. similar_judged (keys id.0 0) (others id.0 0) (judged_at nodes id) (similar id.0 0) (agrees.tells.judged id there);
        };
      }
