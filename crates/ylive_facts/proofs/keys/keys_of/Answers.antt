use Rattle.std.proofs.Common.{◌+◌, ◌-◌, ◌∙◌, ap, sym, subst, arith}
use Rattle.std.specs.Prelude.{option_map, sum_by}
use Rattle.std.specs.List.{range_with_len}
use Rattle.yspec.specs.Forest.{end, node}
use Rattle.yschema_model.specs.View as schema_view
use Rattle.ystore.specs.Views.{store_of}
use Rattle.ystore_tree.specs.Hanging.{stored_of, tree_of}
use Rattle.ystore_tree.proofs.PartLemmas.{reads_on, stands_read}
use Rattle.ylive_facts.specs.Keys.{flags_of, key_at, key_view, slots_of}
use Rattle.ylive_facts.specs.Reads.{key_reads}
use Rattle.ylive_facts.proofs.KeyLemmas.{SoFar, all_read, next_key, next_none, no_key}
use Rattle.ylive_facts.proofs.ReadLemmas.{next_slot}
use Rattle.ylive_facts.proofs.RowLemmas.{schema_is}
use Rattle.ylive_facts.proofs.keys.keys_of.Goals as goal
use Rattle.ylive_facts.proofs.keys.keys_of.Goals.{in-Some-2+in_ok-push, in_default-2}

pub loop-slot-preserved : goal.loop-slot-preserved
loop-slot-preserved c =
    let s = schema_view.view c.args.schema.now in
    let start = store_of c.args.counted.now in
    let now = store_of c.loop-slot.counted in
    let so_far = c.loop-slot.invariant in
    record {
      same_reference = c.in_ok-key.ensures.same_reference ∙ so_far.same_reference;
      kept = reads_on start now (store_of c.key_at.new.counted) so_far.kept c.in_ok-key.ensures.kept;
      reads =
          let was = so_far.reads in
          let more = c.in_ok-key.ensures.reads in
          let count = c.flag_count-slots.ensures.count in
          let next = next_slot (key_reads s c.in-Some.of.0) c.loop-slot.slot (slots_of s c.in-Some.of.0) (omega (arith, count, c.loop-slot-test.true)) in
          omega (arith, was, more, next);
      held = λ n below same stands.
          let schema = schema_is start c.args.above n below c.args.id c.in-Some.of same stands (sym c.in-Some.is ∙ c.schema.ensures.schema) in
          let at = key_at s c.args.above (stored_of n) (tree_of below) in
          let slots = slots_of s n.schema.0 in
          let count = c.flag_count-slots.ensures.count ∙ ap (λ x. flags_of s x.0) (sym schema) in
          let key = c.in_ok-key.ensures.key n below same schema (stands_read start now c.args.above (node n below end) so_far.kept stands) in
          elim c.match-branch-2.branch [
            | in-Some-2+in_ok-push w ↦
                subst (λ h. SoFar at c.args.id c.args.held.now.items slots (c.loop-slot.slot + 1) h.items) (sym w.held-is)
                (next_key at c.args.id c.args.held.now.items slots c.loop-slot.slot c.loop-slot.held.items w.push.new.self.items w.in-Some-2.key (omega (arith, count, c.loop-slot-test.true))
                (sym (ap (option_map key_view) w.in-Some-2.is) ∙ key) w.in_ok-push.ensures.items (so_far.held n below same stands))
            | in_default-2 w ↦
                subst (λ h. SoFar at c.args.id c.args.held.now.items slots (c.loop-slot.slot + 1) h.items) (sym w.held-is)
                (next_none at c.args.id c.args.held.now.items slots c.loop-slot.slot c.loop-slot.held.items (omega (arith, count, c.loop-slot-test.true))
                (no_key at c.loop-slot.slot c.in_ok-key.field-0 w.in_default-2.not-Some key) (so_far.held n below same stands))
          ];
    }

pub returns-clause-reads : goal.returns-clause-reads
returns-clause-reads c =
    all_read (schema_view.view c.args.schema.now) (store_of c.args.counted.now) c.args.id c.in-Some.of _ _ c.args.schema.now.fit (sym c.in-Some.is ∙ c.schema.ensures.schema) c.loop-slot.invariant.reads

pub returns-in_err-key-clause-reads : goal.returns-in_err-key-clause-reads
returns-in_err-key-clause-reads c =
    let s = schema_view.view c.args.schema.now in
    let of = c.in-Some.of in
    let at = key_reads s of.0 in
    let slots = slots_of s of.0 in
    let slot = c.loop-slot.slot in
    let was = c.loop-slot.invariant.reads in
    let more = c.in_err-key.ensures.reads in
    let count = c.flag_count-slots.ensures.count in
    let next = next_slot at slot slots (omega (arith, count, c.loop-slot-test.true)) in
    all_read s (store_of c.args.counted.now) c.args.id of _ (sum_by at (range_with_len (slot + 1) (slots - (slot + 1)))) c.args.schema.now.fit
    (sym c.in-Some.is ∙ c.schema.ensures.schema) (omega (arith, was, more, next))

pub returns-in_err-push-clause-reads : goal.returns-in_err-push-clause-reads
returns-in_err-push-clause-reads c =
    let s = schema_view.view c.args.schema.now in
    let of = c.in-Some.of in
    let at = key_reads s of.0 in
    let slots = slots_of s of.0 in
    let slot = c.loop-slot.slot in
    let was = c.loop-slot.invariant.reads in
    let more = c.in_ok-key.ensures.reads in
    let count = c.flag_count-slots.ensures.count in
    let next = next_slot at slot slots (omega (arith, count, c.loop-slot-test.true)) in
    all_read s (store_of c.args.counted.now) c.args.id of _ (sum_by at (range_with_len (slot + 1) (slots - (slot + 1)))) c.args.schema.now.fit
    (sym c.in-Some.is ∙ c.schema.ensures.schema) (omega (arith, was, more, next))
