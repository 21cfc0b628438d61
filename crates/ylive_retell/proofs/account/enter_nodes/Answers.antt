use Rattle.std.proofs.Common.{◌∙◌, get_or, refl, sym, arith}
use Rattle.std.proofs.lemmas.List.{at_drop_more, at_drop_all}
use Rattle.yschema_model.specs.View as schema_view
use Rattle.ystore.specs.Views.{store_of}
use Rattle.ystore_rows.specs.declared.row.NodeId.{NodeId}
use Rattle.ystore_tree.proofs.PartLemmas.{reads_nothing, reads_on}
use Rattle.ylive_retell.specs.Standing.{standing}
use Rattle.ylive_retell.proofs.AccountLemmas.{next, next_stands, none_yet, enters_none, enters_more, enters_same, all_done, there_read}
use Rattle.ylive_retell.proofs.ReadLemmas.{read_more, read_some, read_all}
use Rattle.ylive_retell.proofs.account.enter_nodes.Goals as goal

pub loop-id-init : goal.loop-id-init
loop-id-init c =
    record {
      same_reference = refl;
      kept = reads_nothing (store_of c.args.counted.now);
      entered = λ above f stands are. (none_yet c.args.numbers.now above f are, enters_none (schema_view.view c.args.schema.now) c.args.account.now, omega arith);
    }

pub loop-id-preserved : goal.loop-id-preserved
loop-id-preserved c =
    record {
      same_reference = c.in_ok-enter_node.ensures.same_reference ∙ c.loop-id.invariant.same_reference;
      kept = reads_on (store_of c.args.counted.now) (store_of c.loop-id.counted) (store_of c.enter_node.new.counted) c.loop-id.invariant.kept c.in_ok-enter_node.ensures.kept;
      entered = λ above f stands are.
          let so = c.loop-id.invariant.entered above f stands are in
          let i = c.loop-id.id-index in
          let numbers = c.args.numbers.now in
          let id : NodeId = get_or numbers i (record { 0 = 0 }) in
          let n = next numbers i (standing above f) id so.0 (at_drop_more (λ xs. xs) numbers i (record { 0 = 0 }) (omega arith)) in
          let there = there_read (store_of c.args.counted.now) (store_of c.loop-id.counted) id n.here c.loop-id.invariant.kept
          (next_stands (store_of c.args.counted.now) numbers i above f id so.0 n stands) in (
            n.then,
            enters_same (schema_view.view c.args.schema.now) c.args.account.now c.enter_node.new.account _ n.then.done (sym n.is_done)
                (enters_more (schema_view.view c.args.schema.now) c.args.account.now c.loop-id.account c.enter_node.new.account so.0.done n.here so.1 (c.in_ok-enter_node.ensures.node n.here there)),
            read_more (schema_view.view c.args.schema.now) 7 numbers i above f so.0 _ _ so.2 _ id n (c.in_ok-enter_node.ensures.reads n.here there),
          );
    }

pub returns-clause-nodes : goal.returns-clause-nodes
returns-clause-nodes c above f stands are =
    let so = c.loop-id.invariant.entered above f stands are in
    enters_same (schema_view.view c.args.schema.now) c.args.account.now c.loop-id.account so.0.done (standing above f)
    (all_done c.args.numbers.now c.loop-id.id-index (standing above f) so.0 (at_drop_all (λ xs. xs) c.args.numbers.now c.loop-id.id-index (omega arith))) so.1

pub returns-in_err-enter_node-clause-kept : goal.returns-in_err-enter_node-clause-kept
returns-in_err-enter_node-clause-kept c =
    reads_on (store_of c.args.counted.now) (store_of c.loop-id.counted) (store_of c.enter_node.new.counted) c.loop-id.invariant.kept c.in_err-enter_node.ensures.kept

pub returns-in_err-enter_node-clause-same_reference : goal.returns-in_err-enter_node-clause-same_reference
returns-in_err-enter_node-clause-same_reference c = c.in_err-enter_node.ensures.same_reference ∙ c.loop-id.invariant.same_reference

pub returns-clause-reads : goal.returns-clause-reads
returns-clause-reads c above f stands are =
    let so = c.loop-id.invariant.entered above f stands are in
    read_all (schema_view.view c.args.schema.now) 7 c.args.numbers.now c.loop-id.id-index above f so.0 _ _ so.2
    (all_done c.args.numbers.now c.loop-id.id-index (standing above f) so.0 (at_drop_all (λ xs. xs) c.args.numbers.now c.loop-id.id-index (omega arith)))

pub returns-in_err-enter_node-clause-reads : goal.returns-in_err-enter_node-clause-reads
returns-in_err-enter_node-clause-reads c above f stands are =
    let so = c.loop-id.invariant.entered above f stands are in
    let i = c.loop-id.id-index in
    let numbers = c.args.numbers.now in
    let id : NodeId = get_or numbers i (record { 0 = 0 }) in
    let n = next numbers i (standing above f) id so.0 (at_drop_more (λ xs. xs) numbers i (record { 0 = 0 }) (omega arith)) in
    let there = there_read (store_of c.args.counted.now) (store_of c.loop-id.counted) id n.here c.loop-id.invariant.kept
    (next_stands (store_of c.args.counted.now) numbers i above f id so.0 n stands) in
    read_some (schema_view.view c.args.schema.now) 7 numbers i above f so.0 _ _ so.2 _ id n (c.in_err-enter_node.ensures.reads n.here there)
