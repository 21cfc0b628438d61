-- What is judged where values come and go with a change of a row: nodes outside what goes that refer to values which are shared.
use Rattle.std.proofs.Common.{◌≡◌, ℕ, ◌+◌, ◌≤◌, Bool, true, false, cond, List, ◌++◌, Option, Some, None, refl, sym, ap, ap₂, ◌∙◌, arith}
use Rattle.std.specs.Prelude.{count_by}
use Rattle.std.proofs.lemmas.Bool.{eqb-true, false≢true}
use Rattle.std.proofs.lemmas.List.Sums.{sum_by-append}
use Rattle.std.proofs.lemmas.Option.{none-some}
use Rattle.yspec.specs.Forest.{weigh}
use Rattle.yspec.specs.schema.Schema.{Schema}
use Rattle.yspec.specs.types.Types.{Val}
use Rattle.yspec_reach.specs.Referring.{Reference}
use Rattle.yschema_model.specs.declared.node.SchemaId.{SchemaId}
use Rattle.ystore.specs.Store.{instances_at}
use Rattle.ystore_rows.specs.declared.row.Row.TheVariants.{Top}
use Rattle.ystore.specs.declared.key.Key as rust
use Rattle.ystore.specs.declared.nodes.Nodes.{Nodes}
use Rattle.ystore_tree.specs.Hanging.{Numbered, Branches, tree_of, times}
use Rattle.ystore_tree.specs.Swaps.{Swaps}
use Rattle.ystore_tree.specs.Ways.{Way, around, end_of}
use Rattle.ystore_tree.specs.declared.swapping.Change.{Change}
use Rattle.ystore_tree.proofs.HangingLemmas.{weigh_around}
use Rattle.yspec_play.specs.Absences.{Default, is_default}
use Rattle.yspec_play.specs.Over.{AlikeBut}
use Rattle.ylive_facts.specs.Given.{is_referred}
use Rattle.ylive_facts.specs.Keys.{Key, value_key, item_key, tuple_key, texts_key, key_view}
use Rattle.ylive_marks.specs.Keys.{slot_of}
use Rattle.ylive_retell.specs.Assigned.{left, has_at}
use Rattle.ylive_retell.specs.Growing.{times_valued}
use Rattle.ylive_retell.specs.IsTold.{IsTold, is_counted}
use Rattle.ylive_retell.specs.Plans.{Plans, row_schema}
use Rattle.ylive_retell.specs.Reads.{holding, is_moved, lastly_judged, newly_judged}
use Rattle.ylive_retell.specs.Standing.{all_given, defaults_in_row}
use Rattle.ylive_retell.specs.declared.planning.Plan.{Plan}
use Rattle.ylive_retell.proofs.AssignedLemmas.{left_is}
use Rattle.ylive_retell.proofs.InstanceLemmas.{valued_is}
use Rattle.ylive_retell.proofs.MovedLemmas.{comes_moved, goes_moved}
use Rattle.ylive_retell.proofs.OnceLemmas.{Passes, is_new, is_last, newly_is, lastly_is, new_once, last_once, valued_same}
use Rattle.ylive_retell.proofs.RetellLemmas.{all_comes, all_goes, once_new, outside_then, without}
use Rattle.ylive_retell.proofs.SharingLemmas.{IsValue, judged_paid, sharing}
use Rattle.ylive_retell.proofs.SwappedLemmas.{weigh_gone}
use Rattle.ylive_retell.proofs.TransferLemmas.{no_view}
use Rattle.ylive_retell.proofs.ValueLemmas.{given_all, in_use, part_few, values_changed}

turned : (old_part new_part old new : List Default) → AlikeBut old_part new_part old new → AlikeBut new_part old_part new old
turned old_part new_part old new so = record { front = so.front; back = so.back; old_is = so.new_is; new_is = so.old_is }

module _ (schema : Schema) (way : Way) (f loose g left_over : Branches) (of : SchemaId) (change : Change) (swaps : Swaps of change f loose g left_over)
    (plan : Plan) (plans : Plans schema way f loose g left_over plan) (start : Nodes)
    (once : (k : ℕ) → times k (around way f) + times k loose ≤ 1) (is : IsTold schema start (around way f))
    (shares : Reference → Bool) (all : (r : Reference) → is_moved schema way f loose g left_over r ≡ true → shares r ≡ true) where
  -- ---- keys that are left

  still : (number slot : ℕ) (key : rust.Key) → without schema way f loose g left_over of change swaps plan plans start once is number slot ≡ Some key
      → is.held number slot ≡ Some key
  still number slot key e = by (has_at slot_of plan.leaves.items number slot) (sym (left_is slot_of plan.leaves.items is.held number slot) ∙ e)
    where
      by : (b : Bool) → cond b None (is.held number slot) ≡ Some key → is.held number slot ≡ Some key
      by true other = absurd (none-some key other)
      by false same = same

  gone : (number : ℕ) → 1 ≤ times number left_over → without schema way f loose g left_over of change swaps plan plans start once is number 0 ≡ None
  gone number here =
      no_view (without schema way f loose g left_over of change swaps plan plans start once is number 0)
      (outside_then schema way f loose g left_over of change swaps plan plans start once is number 0
      (let most = once_new schema way f loose g left_over of change swaps plan plans start once is number in omega (arith, most, here)))

  within : (w : Numbered → ℕ) → weigh w left_over ≤ weigh w (around way f)
  within w = let part = weigh_gone w of change f loose g left_over swaps in let whole = weigh_around w way f in omega (arith, part, whole)

  -- ---- instances

  agree : (key other : rust.Key) → key_view key ≡ key_view other → instances_at start key ≡ instances_at start other
  agree key other same = by (key_view other) refl (is_counted schema (key_view other)) refl
    where
      by : (k : Key) → key_view other ≡ k → (b : Bool) → is_counted schema (key_view other) ≡ b → instances_at start key ≡ instances_at start other
      by k sees false off = is.others key (ap (is_counted schema) same ∙ off) ∙ sym (is.others other off)
      by (value_key number v) sees true on =
          let refers = sym (ap (is_counted schema) sees) ∙ on in
          is.values key number v (same ∙ sees) refers ∙ sym (is.values other number v sees refers)
      by (item_key row number v) sees true on = absurd (false≢true (sym (ap (is_counted schema) sees) ∙ on))
      by (tuple_key row number u vs) sees true on = absurd (false≢true (sym (ap (is_counted schema) sees) ∙ on))
      by (texts_key row number texts) sees true on = absurd (false≢true (sym (ap (is_counted schema) sees) ∙ on))

  module _ (key : rust.Key) (v : IsValue schema key) where
    abbrev count : List Default → ℕ
    count ds = count_by (is_default v.number v.value) ds

    counted : (xs ys : List Default) → count (xs ++ ys) ≡ count xs + count ys
    counted xs ys = sum_by-append (λ (d : Default). cond (is_default v.number v.value d) 1 0) xs ys

    -- what comes where there was none
    shared_new : instances_at start key ≡ 0 → 1 ≤ times_valued key plan.comes.items → shares (v.number, v.value) ≡ true
    shared_new none some =
        let comes = valued_is key v.number v.value v.sees plan.comes.items ∙ ap count plans.comes in
        let parts = counted (all_given schema (end_of Top way) loose) plans.used_then in
        let given = given_all schema v.number v.value v.refers (end_of Top way) loose in
        let few = part_few schema v.number v.value v.refers plans.used plans.used_then (defaults_in_row schema (row_schema None way) (tree_of f))
        (defaults_in_row schema (row_schema None way) (tree_of g)) plans.uses in
        let used = in_use schema v.number v.value v.refers (row_schema None way) (tree_of g) in
        let have = is.values key v.number v.value v.sees v.refers in
        all (v.number, v.value) (comes_moved schema v.number v.value way f loose g left_over (times_valued key plan.comes.items) (count plans.used_then)
        (omega (arith, comes, parts, given)) (omega (arith, few, used)) (omega (arith, have, none)) some)

    -- what goes where none is left
    shared_last : instances_at start key + times_valued key plan.comes.items ≤ times_valued key plan.goes.items → 1 ≤ times_valued key plan.goes.items
        → shares (v.number, v.value) ≡ true
    shared_last less some =
        let comes = valued_is key v.number v.value v.sees plan.comes.items ∙ ap count plans.comes in
        let goes = valued_is key v.number v.value v.sees plan.goes.items ∙ ap count plans.goes in
        let parts = counted (all_given schema (end_of Top way) left_over) plans.used in
        let given = given_all schema v.number v.value v.refers (end_of Top way) left_over in
        let few = part_few schema v.number v.value v.refers plans.used_then plans.used (defaults_in_row schema (row_schema None way) (tree_of g))
        (defaults_in_row schema (row_schema None way) (tree_of f)) (turned plans.used plans.used_then (defaults_in_row schema (row_schema None way) (tree_of f))
        (defaults_in_row schema (row_schema None way) (tree_of g)) plans.uses) in
        let used = in_use schema v.number v.value v.refers (row_schema None way) (tree_of f) in
        let have = is.values key v.number v.value v.sees v.refers in
        let changed = values_changed schema v.number v.value v.refers of change way f loose g left_over swaps plans.used plans.used_then plans.uses in
        all (v.number, v.value) (goes_moved schema v.number v.value way f loose g left_over (times_valued key plan.goes.items) (count plans.used)
        (omega (arith, goes, parts, given)) (omega (arith, few, used)) (omega (arith, have, changed, comes, goes, less)) some)

  -- ---- all that come and go

  pub comes_paid : newly_judged (instances_at start) (holding (left slot_of plan.leaves.items is.held) (around way f)) plan.comes.items plan.comes.items
      + sharing schema shares (tree_of left_over) ≤ sharing schema shares (tree_of (around way f))
  comes_paid =
      let now = without schema way f loose g left_over of change swaps plan plans start once is in
      let same = newly_is (instances_at start) plan.comes.items (holding now (around way f)) plan.comes.items in
      let paid = judged_paid schema is.held now (around way f) left_over is.keyed still gone within shares
      (is_new (instances_at start) plan.comes.items) (new_once (instances_at start) plan.comes.items agree) plan.comes.items
      (all_comes schema way f loose g left_over of change swaps plan plans start once is) (λ key v passes.
      let test = eqb-true (instances_at start key + times_valued key plan.comes.items) passes.number passes.passes in
      let least = passes.least in let most = passes.most in
      shared_new key v (omega (arith, test, most)) (omega (arith, least, most))) in
      omega (arith, same, paid)

  pub goes_paid : lastly_judged (λ key. instances_at start key + times_valued key plan.comes.items) (holding (left slot_of plan.leaves.items is.held) (around way f))
      plan.goes.items plan.goes.items
      + sharing schema shares (tree_of left_over) ≤ sharing schema shares (tree_of (around way f))
  goes_paid =
      let now = without schema way f loose g left_over of change swaps plan plans start once is in
      let have : rust.Key → ℕ = λ key. instances_at start key + times_valued key plan.comes.items in
      let same = lastly_is have plan.goes.items (holding now (around way f)) plan.goes.items in
      let paid = judged_paid schema is.held now (around way f) left_over is.keyed still gone within shares
      (is_last have plan.goes.items)
      (last_once have plan.goes.items (λ key other views. ap₂ (λ (m n : ℕ). m + n) (agree key other views) (valued_same key other views plan.comes.items)))
      plan.goes.items (all_goes schema way f loose g left_over of change swaps plan plans start once is) (λ key v passes.
      let test = eqb-true (have key + passes.number) (times_valued key plan.goes.items + 1) passes.passes in
      let least = passes.least in let most = passes.most in
      shared_last key v (omega (arith, test, least)) (omega (arith, least, most))) in
      omega (arith, same, paid)
