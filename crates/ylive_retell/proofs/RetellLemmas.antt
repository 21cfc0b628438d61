-- What keys and values do where a row of a document is changed.
use Rattle.std.proofs.Common.{◌≡◌, ℕ, zero, suc, ◌+◌, ◌-◌, ◌^◌, ◌≤◌, Bool, true, false, List, ◌++◌, Some, None, option_map, refl, sym, ap, ap₂, ◌∙◌, arith, subst, cond, eqb}
use Rattle.std.specs.Prelude.{count_by}
use Rattle.std.specs.List.{flat_map}
use Rattle.std.specs.Option.{option_or}
use Rattle.std.proofs.lemmas.Bool.{eqb-true, false≢true}
use Rattle.std.proofs.lemmas.Grind.{flat_map-append}
use Rattle.std.proofs.lemmas.List.Sums.{sum_by-append}
use Rattle.yspec.specs.Forest.{end, node, size}
use Rattle.yspec.specs.schema.Schema.{Schema}
use Rattle.yspec.specs.types.Types.{Val}
use Rattle.yschema_model.specs.declared.node.SchemaId.{SchemaId}
use Rattle.ystore.specs.Store.{instances_at, same_key}
use Rattle.ystore_rows.specs.declared.row.Row.{Row}
use Rattle.ystore_rows.specs.declared.row.Row.TheVariants.{Top, Below}
use Rattle.ystore.specs.declared.key.Key as rust
use Rattle.ystore.specs.declared.nodes.Nodes.{Nodes}
use Rattle.ystore_tree.specs.Hanging.{Branches, tree_of, is_number, times}
use Rattle.ystore_tree.specs.Swaps.{Swaps}
use Rattle.ystore_tree.specs.Ways.{Way, around, end_of}
use Rattle.ystore_tree.specs.declared.swapping.Change.{Change}
use Rattle.ystore_tree.proofs.HangingLemmas.{weigh_around}
use Rattle.yspec_play.specs.Absences.{Default, is_default}
use Rattle.ylive_facts.specs.Given.{given_view, is_referred}
use Rattle.ylive_facts.specs.Keys.{Key, Holding, value_key, item_key, tuple_key, texts_key, key_view, holdings}
use Rattle.ylive_marks.specs.Keys.{Keys, slot_of}
use Rattle.ylive_retell.specs.Assigned.{Assignment, AreDistinct, CanJoin, CanLeave, has_at, joined, key_in, left}
use Rattle.ylive_retell.specs.Each.{Each}
use Rattle.ylive_retell.specs.Growing.{AreThere, times_valued}
use Rattle.ylive_retell.specs.IsTold.{IsTold, is_counted}
use Rattle.ylive_retell.specs.Joins.{WithdrawsValues}
use Rattle.ylive_retell.specs.Keyed.{HasKeys}
use Rattle.ylive_retell.specs.Plans.{Plans, joining, leaving, row_schema}
use Rattle.ylive_retell.specs.Standing.{Every, standing, on_the_way, keys_held, all_given, all_held, defaults_in_row, way_held}
use Rattle.ylive_retell.specs.Unlike.{Unlike, slot_in}
use Rattle.ylive_retell.specs.declared.planning.Plan.{Plan}
use Rattle.ylive_retell.proofs.AssignedLemmas.{can_join, can_leave}
use Rattle.ylive_retell.proofs.EachLemmas.{every_first, every_join, every_second, each_there, each_around, each_way, standing_each}
use Rattle.ylive_retell.proofs.InstanceLemmas.{few_below, few_in, few_nodes, valued_is, valued_none}
use Rattle.ylive_retell.proofs.KeptLemmas.{all_free, gone_free, keys_kept}
use Rattle.ylive_retell.proofs.KeyLemmas.{not_in}
use Rattle.ylive_retell.proofs.StayingLemmas.{IsHeld, distinct_part, every_part, free_then, none_there, off_way, same_at, same_then, stays_at, whole}
use Rattle.ylive_retell.proofs.SwappedLemmas.{IsReferred, all_referred, each_gone, given_referred, times_gone, times_swapped}
use Rattle.ylive_retell.proofs.TransferLemmas.{viewed, all_free_so, are_held, all_so, distinct_same, joined_view, left_view, none_held}
use Rattle.ylive_retell.proofs.UnlikeLemmas.{distinct, every_map, not_on_way, parts_way, unlike_both}
use Rattle.ylive_retell.proofs.ValueLemmas.{few_go, given_all, in_use, part_few}

-- what is so of each number of a forest
pub number_in : (P : ℕ → Type 0) (k : ℕ) (above : Row) (f : Branches) → 1 ≤ times k f → Every (λ s. P s.label.id.0) (standing above f) → P k
number_in P k above end here all = absurd (omega (arith, here))
number_in P k above (node n below after) here all =
    by (eqb n.id.0 k) refl (times k below) refl
    (λ more. number_in P k (Below n.id) below more (every_first (λ s. P s.label.id.0) (standing (Below n.id) below) (standing above after) all.1))
    (λ more. number_in P k above after more (every_second (λ s. P s.label.id.0) (standing (Below n.id) below) (standing above after) all.1))
  where
    by : (b : Bool) → eqb n.id.0 k ≡ b → (m : ℕ) → times k below ≡ m → (1 ≤ times k below → P k) → (1 ≤ times k after → P k) → P k
    by true is m e first second = subst P (eqb-true n.id.0 k is) all.0
    by false is (suc m) e first second = first (omega (arith, e))
    by false is zero e first second =
        let none : is_number k n ≡ 0 = ap (λ b. cond b 1 0) is in
        second (omega (arith, here, none, e))

module _ (schema : Schema) (way : Way) (f loose g left_over : Branches) (of : SchemaId) (change : Change) (swaps : Swaps of change f loose g left_over)
    (plan : Plan) (plans : Plans schema way f loose g left_over plan) (start : Nodes)
    (once : (k : ℕ) → times k (around way f) + times k loose ≤ 1) (is : IsTold schema start (around way f)) where
  -- ---- numbers

  pub same : (k : ℕ) → times k g + times k left_over ≡ times k f + times k loose
  same k = times_swapped k of change f loose g left_over swaps

  part : (k : ℕ) → times k left_over ≤ times k f
  part k = times_gone k of change f loose g left_over swaps

  pub once_new : (k : ℕ) → times k (around way g) + times k left_over ≤ 1
  once_new k =
      let most = once k in
      let sums = same k in
      let was = weigh_around (is_number k) way f in
      let now = weigh_around (is_number k) way g in
      omega (arith, most, sums, was, now)

  unlike_gone : Unlike (leaving way f left_over)
  unlike_gone =
      unlike_both (end_of Top way) way f left_over
      (λ k. let most = once k in let all = weigh_around (is_number k) way f in let p = part k in omega (arith, most, all, p))
      (λ k. let most = once k in omega (arith, most))

  pub unlike_come : Unlike (joining way g loose)
  unlike_come =
      unlike_both (end_of Top way) way g loose
      (λ k. let most = once k in let all = weigh_around (is_number k) way f in omega (arith, most, all))
      (λ k. let most = once_new k in omega (arith, most))

  -- ---- keys that are left

  abbrev had : Assignment Key
  had = viewed is.held

  keyed_gone : Every (λ s. HasKeys schema had s.row s.label s.below) (leaving way f left_over)
  keyed_gone =
      every_join _ (standing (end_of Top way) left_over) (on_the_way Top way f)
      (standing_each (HasKeys schema had) (end_of Top way) left_over
      (each_gone (HasKeys schema had) (end_of Top way) of change f loose g left_over swaps (each_there (HasKeys schema had) Top way f is.keyed)))
      (each_way (HasKeys schema had) Top way f (each_around (HasKeys schema had) Top way f is.keyed))

  -- the keys of all nodes that go, and of those on the way, some of which stay
  abbrev gone : List Holding
  gone = all_held schema (end_of Top way) left_over

  abbrev all_gone : List Holding
  all_gone = whole gone plans.keys.front plans.changed plans.keys.back

  all_gone_is : flat_map (keys_held schema) (leaving way f left_over) ≡ all_gone
  all_gone_is =
      flat_map-append (keys_held schema) (standing (end_of Top way) left_over) (on_the_way Top way f) ∙ ap (λ (hs : List Holding). gone ++ hs) plans.keys.old_is

  distinct_all_gone : AreDistinct slot_in all_gone
  distinct_all_gone = subst (λ (hs : List Holding). AreDistinct slot_in hs) all_gone_is (distinct schema (leaving way f left_over) unlike_gone)

  distinct_gone : AreDistinct slot_of plan.leaves.items
  distinct_gone =
      distinct_same plan.leaves.items
      (subst (λ (hs : List Holding). AreDistinct slot_in hs) (sym plans.leaves)
      (distinct_part gone plans.keys.front plans.changed plans.keys.back distinct_all_gone))

  held_all_gone : Every (IsHeld had) all_gone
  held_all_gone =
      subst (λ (hs : List Holding). Every (IsHeld had) hs) all_gone_is (all_so schema had (leaving way f left_over) keyed_gone)

  pub can_leave_all : CanLeave slot_of same_key is.held plan.leaves.items
  can_leave_all =
      can_leave slot_of same_key is.held plan.leaves.items distinct_gone
      (are_held schema is.held plan.leaves.items
      (subst (λ (hs : List Holding). Every (IsHeld had) hs) (sym plans.leaves)
      (every_part gone plans.keys.front plans.changed plans.keys.back (IsHeld had) held_all_gone)))

  -- ---- keys that are joined

  abbrev pub without : Keys
  without = left slot_of plan.leaves.items is.held

  abbrev pub then : Keys
  then = joined slot_of plan.joins.items without

  abbrev come : List Holding
  come = all_held schema (end_of Top way) loose

  abbrev all_come : List Holding
  all_come = whole come plans.keys.front plans.changed_then plans.keys.back

  all_come_is : flat_map (keys_held schema) (joining way g loose) ≡ all_come
  all_come_is =
      flat_map-append (keys_held schema) (standing (end_of Top way) loose) (on_the_way Top way g) ∙ ap (λ (hs : List Holding). come ++ hs) plans.keys.new_is

  -- what is so of all keys that nodes hold then is so of those that are joined
  pub joins_part : (P : Holding → Type 0) → Every P (flat_map (keys_held schema) (joining way g loose)) → Every P (holdings plan.joins.items)
  joins_part P all =
      subst (λ (hs : List Holding). Every P hs) (sym plans.joins)
      (every_part come plans.keys.front plans.changed_then plans.keys.back P (subst (λ (hs : List Holding). Every P hs) all_come_is all))

  distinct_all_come : AreDistinct slot_in all_come
  distinct_all_come = subst (λ (hs : List Holding). AreDistinct slot_in hs) all_come_is (distinct schema (joining way g loose) unlike_come)

  distinct_come : AreDistinct slot_of plan.joins.items
  distinct_come =
      distinct_same plan.joins.items
      (subst (λ (hs : List Holding). AreDistinct slot_in hs) (sym plans.joins)
      (distinct_part come plans.keys.front plans.changed_then plans.keys.back distinct_all_come))

  outsiders : (k slot : ℕ) → times k (around way f) ≡ 0 → had k slot ≡ None
  outsiders k slot none = ap (option_map key_view) (is.agrees.index.outside k slot none)

  then_view : (k slot : ℕ) → viewed then k slot ≡ option_or (key_in slot_in (flat_map (keys_held schema) (joining way g loose)) k slot)
      (cond (has_at slot_in (flat_map (keys_held schema) (leaving way f left_over)) k slot) None (had k slot))
  then_view k slot =
      joined_view plan.leaves.items plan.joins.items is.held distinct_come k slot
      ∙ (ap₂ (λ (new old : List Holding). option_or (key_in slot_in new k slot) (cond (has_at slot_in old k slot) None (had k slot))) plans.joins plans.leaves
      ∙ (same_then had gone come plans.keys.front plans.keys.back plans.changed plans.changed_then distinct_all_gone distinct_all_come held_all_gone k slot
      ∙ ap₂ (λ (new old : List Holding). option_or (key_in slot_in new k slot) (cond (has_at slot_in old k slot) None (had k slot))) (sym all_come_is) (sym all_gone_is)))

  pub keyed_then : Each (HasKeys schema (viewed then)) Top (around way g)
  keyed_then = keys_kept schema had (viewed then) way f loose g left_over once once_new same outsiders is.keyed part then_view of change swaps

  -- ---- which keys are free then

  free_gone : Every (λ s. (slot : ℕ) → cond (has_at slot_in (flat_map (keys_held schema) (leaving way f left_over)) s.label.id.0 slot) None (had s.label.id.0 slot) ≡ None)
      (standing (end_of Top way) left_over)
  free_gone =
      gone_free schema had (viewed then) way f loose g left_over once once_new same outsiders is.keyed part then_view
      (each_gone (HasKeys schema had) (end_of Top way) of change f loose g left_over swaps (each_there (HasKeys schema had) Top way f is.keyed))

  without_view : (k slot : ℕ) → viewed without k slot ≡ cond (has_at slot_in (gone ++ plans.changed) k slot) None (had k slot)
  without_view k slot =
      left_view plan.leaves.items is.held k slot ∙ ap (λ (hs : List Holding). cond (has_at slot_in hs k slot) None (had k slot)) plans.leaves

  -- of a node that isn't on the way no key stays
  none_stays : (k slot : ℕ) → times k (around way g) ≡ 0 → stays_at gone plans.keys.front plans.changed plans.keys.back k slot ≡ false
  none_stays k slot none =
      off_way (way_held schema Top way f) plans.keys.front plans.changed plans.keys.back plans.keys.old_is k slot
      (none_there (way_held schema Top way f) k slot
      (not_in schema (on_the_way Top way f) k slot
      (not_on_way k Top way f (let now = weigh_around (is_number k) way g in let parts = parts_way k way in omega (arith, none, now, parts)))))

  -- what goes has no keys any more, nor has what is outside
  pub outside_then : (k slot : ℕ) → times k (around way g) ≡ 0 → viewed without k slot ≡ None
  outside_then k slot none = without_view k slot ∙ by (times k left_over) refl
    where
      by : (n : ℕ) → times k left_over ≡ n → cond (has_at slot_in (gone ++ plans.changed) k slot) None (had k slot) ≡ None
      by zero e =
          no_key (has_at slot_in (gone ++ plans.changed) k slot)
          (outsiders k slot
          (let sums = same k in let was = weigh_around (is_number k) way f in let now = weigh_around (is_number k) way g in omega (arith, none, e, sums, was, now)))
        where
          no_key : (b : Bool) → had k slot ≡ None → cond b None (had k slot) ≡ None
          no_key true out = refl
          no_key false out = out
      by (suc n) e =
          ap (λ b. cond b None (had k slot))
          (sym (same_at gone plans.keys.front plans.changed plans.keys.back k slot (none_stays k slot none))
          ∙ ap (λ (hs : List Holding). has_at slot_in hs k slot) (sym all_gone_is))
          ∙ number_in (λ (m : ℕ). (at : ℕ) → cond (has_at slot_in (flat_map (keys_held schema) (leaving way f left_over)) m at) None (had m at) ≡ None) k (end_of Top way) left_over
          (omega (arith, e)) free_gone slot

  pub can_join_all : CanJoin slot_of without plan.joins.items
  can_join_all =
      can_join slot_of without plan.joins.items distinct_come
      (none_held schema without plan.joins.items
      (subst (λ (hs : List Holding). Every (λ p. viewed without p.1.0 (slot_in p.0) ≡ None) hs) (sym plans.joins)
      (every_map _ _ (λ p free. without_view p.1.0 (slot_in p.0) ∙ free) (come ++ plans.changed_then)
      (free_then had gone come plans.keys.front plans.keys.back plans.changed plans.changed_then distinct_all_gone distinct_all_come
      (subst (λ (hs : List Holding). Every (λ p. (slot : ℕ) → cond (has_at slot_in all_gone p.1.0 slot) None (had p.1.0 slot) ≡ None) hs) all_come_is
      (all_free_so schema (λ k slot. cond (has_at slot_in all_gone k slot) None (had k slot)) (joining way g loose)
      (every_map _ _ (λ s free slot. ap (λ (hs : List Holding). cond (has_at slot_in hs s.label.id.0 slot) None (had s.label.id.0 slot)) (sym all_gone_is) ∙ free slot) (joining way g loose)
      (all_free schema had (viewed then) way f loose g left_over once once_new same outsiders is.keyed part then_view))))))))

  -- ---- values

  -- a part of what is referred to is
  part_referred : (front part back all_used : List Default) → all_used ≡ front ++ (part ++ back) → Every (IsReferred schema) all_used → Every (IsReferred schema) part
  part_referred front part back all_used same all =
      every_first (IsReferred schema) part back
      (every_second (IsReferred schema) front (part ++ back) (subst (λ (ds : List Default). Every (IsReferred schema) ds) same all))

  pub all_goes : Every (IsReferred schema) (given_view plan.goes.items)
  all_goes =
      subst (λ (ds : List Default). Every (IsReferred schema) ds) (sym plans.goes)
      (every_join (IsReferred schema) (all_given schema (end_of Top way) left_over) plans.used (given_referred schema (standing (end_of Top way) left_over))
      (part_referred plans.uses.front plans.used plans.uses.back (defaults_in_row schema (row_schema None way) (tree_of f)) plans.uses.old_is (all_referred schema _)))

  pub all_comes : Every (IsReferred schema) (given_view plan.comes.items)
  all_comes =
      subst (λ (ds : List Default). Every (IsReferred schema) ds) (sym plans.comes)
      (every_join (IsReferred schema) (all_given schema (end_of Top way) loose) plans.used_then (given_referred schema (standing (end_of Top way) loose))
      (part_referred plans.uses.front plans.used_then plans.uses.back (defaults_in_row schema (row_schema None way) (tree_of g)) plans.uses.new_is (all_referred schema _)))

  record Counts (key : rust.Key) : Type 0 where
    few : times_valued key plan.goes.items ≤ instances_at start key + times_valued key plan.comes.items
    most : instances_at start key + times_valued key plan.comes.items ≤ 2 ^ 64 - 1

  module _ (size_was : size (around way f) ≤ 2 ^ 28) (size_new : size loose ≤ 2 ^ 28) where
    counted : (key : rust.Key) (number : ℕ) (v : Val) → key_view key ≡ value_key number v → is_referred schema number ≡ true → Counts key
    counted key number v sees refers =
        let goes = valued_is key number v sees plan.goes.items ∙ ap (λ (ds : List Default). count_by (is_default number v) ds) plans.goes in
        let comes = valued_is key number v sees plan.comes.items ∙ ap (λ (ds : List Default). count_by (is_default number v) ds) plans.comes in
        let have = is.values key number v sees refers in
        let bound = few_in schema number v refers is.few (around way f) in
        let new = few_nodes schema number v refers is.few loose in
        let given = given_all schema number v refers (end_of Top way) loose in
        let used = in_use schema number v refers (row_schema None way) (tree_of g) in
        let length_used = few_below schema number v refers is.few (row_schema None way) (tree_of g) in
        let part_used = part_few schema number v refers plans.used plans.used_then (defaults_in_row schema (row_schema None way) (tree_of f))
        (defaults_in_row schema (row_schema None way) (tree_of g)) plans.uses in
        let both = sum_by-append (λ (d : Default). cond (is_default number v d) 1 0) (all_given schema (end_of Top way) loose) plans.used_then in
        let less = few_go schema number v refers of change way f loose g left_over swaps plans.used plans.used_then plans.uses in
        record {
          few = omega (arith, goes, comes, have, less);
          most = omega (arith, comes, have, bound, new, given, used, length_used, part_used, both, size_was, size_new);
        }

    uncounted : (key : rust.Key) → is_counted schema (key_view key) ≡ false → Counts key
    uncounted key off =
        let goes = valued_none schema key off plan.goes.items all_goes in
        let comes = valued_none schema key off plan.comes.items all_comes in
        let have = is.others key off in
        record { few = omega (arith, goes, comes, have); most = omega (arith, comes, have) }

    by_key : (key : rust.Key) (k : Key) (b : Bool) → key_view key ≡ k → is_counted schema k ≡ b → Counts key
    by_key key k false sees e = uncounted key (ap (is_counted schema) sees ∙ e)
    by_key key (value_key number v) true sees e = counted key number v sees e
    by_key key (item_key row number v) true sees e = absurd (false≢true e)
    by_key key (tuple_key row number u vs) true sees e = absurd (false≢true e)
    by_key key (texts_key row number texts) true sees e = absurd (false≢true e)

    pub withdraws : AreThere start plan.comes.items → WithdrawsValues start plan.comes.items plan.goes.items
    withdraws there =
        record {
          there = there;
          most = λ key. (by_key key (key_view key) (is_counted schema (key_view key)) refl refl).most;
          few = λ key. (by_key key (key_view key) (is_counted schema (key_view key)) refl refl).few;
        }
