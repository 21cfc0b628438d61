use Rattle.std.proofs.Common.{◌∙◌, map, get_or, refl, sym, ap, arith}
use Rattle.std.proofs.lemmas.List.{at_drop_more, at_drop_all}
use Rattle.yschema_model.specs.View as schema_view
use Rattle.ystore.specs.Views.{store_of}
use Rattle.ystore_rows.specs.declared.row.NodeId.{NodeId}
use Rattle.ystore_tree.proofs.PartLemmas.{reads_nothing, reads_on}
use Rattle.ylive_facts.specs.InPlay.{absence_views}
use Rattle.ylive_facts.specs.Judging.{judged_view}
use Rattle.ylive_retell.specs.Accounts.{news_view, news_of}
use Rattle.ylive_retell.specs.Standing.{standing}
use Rattle.ylive_retell.proofs.AccountLemmas.{next, next_stands, none_yet, enters_none, enters_more, enters_same, all_done, there_read, news_are, news_more}
use Rattle.ylive_retell.proofs.ReadLemmas.{judged_read, read_all, read_more, read_some}
use Rattle.ylive_retell.proofs.account.enter_new_nodes.Goals as goal

pub loop-id-init : goal.loop-id-init
loop-id-init c =
    record {
      same_reference = refl;
      kept = reads_nothing (store_of c.args.counted.now);
      entered = λ above f stands are.
          (none_yet c.args.numbers.now above f are, enters_none (schema_view.view c.args.schema.now) c.args.account.now, ap (map news_view) c.in_ok-all.ensures.items, omega arith);
    }

pub loop-id-preserved : goal.loop-id-preserved
loop-id-preserved c =
    let first = store_of c.args.counted.now in
    let here = store_of c.loop-id.counted in
    let mid = store_of c.enter_node.new.counted in
    let last = store_of c.judged_of.new.counted in
    record {
      same_reference = c.in_ok-judged.ensures.same_reference ∙ (c.in_ok-absences.ensures.same_reference ∙ c.loop-id.invariant.same_reference);
      kept = reads_on first mid last (reads_on first here mid c.loop-id.invariant.kept c.in_ok-absences.ensures.kept) c.in_ok-judged.ensures.kept;
      entered = λ above f stands are.
          let so = c.loop-id.invariant.entered above f stands are in
          let i = c.loop-id.id-index in
          let numbers = c.args.numbers.now in
          let id : NodeId = get_or numbers i (record { 0 = 0 }) in
          let n = next numbers i (standing above f) id so.0 (at_drop_more (λ xs. xs) numbers i (record { 0 = 0 }) (omega arith)) in
          let there = there_read first here id n.here c.loop-id.invariant.kept (next_stands first numbers i above f id so.0 n stands) in
          let now = there_read here mid id n.here c.in_ok-absences.ensures.kept there in (
            n.then,
            enters_same (schema_view.view c.args.schema.now) c.args.account.now c.enter_node.new.account _ n.then.done (sym n.is_done)
                (enters_more (schema_view.view c.args.schema.now) c.args.account.now c.loop-id.account c.enter_node.new.account so.0.done n.here so.1 (c.in_ok-absences.ensures.node n.here there)),
            news_more (schema_view.view c.args.schema.now) c.loop-id.all.items c.push.new.self.items (record { id = id; judged = c.in_ok-judged.judged; absences = c.in_ok-absences.absences })
                so.0.done n.then.done n.here n.is_done c.in_ok-push.ensures.items so.2
                (news_are (schema_view.view c.args.schema.now) id n.here (judged_view c.in_ok-judged.judged) (absence_views c.in_ok-absences.absences.items) there.is_id
                (c.in_ok-judged.ensures.judged n.here.row n.here.label n.here.below now.is_id now.stands) (c.in_ok-absences.ensures.absences n.here there)),
            read_more (schema_view.view c.args.schema.now) 9 numbers i above f so.0 _ _ so.3 _ id n
                (let one = c.in_ok-absences.ensures.reads n.here there in let two = c.in_ok-judged.ensures.reads in judged_read (schema_view.view c.args.schema.now) n.here _ _ _ one two),
          );
    }

pub returns-clause-nodes : goal.returns-clause-nodes
returns-clause-nodes c above f stands are =
    let so = c.loop-id.invariant.entered above f stands are in
    enters_same (schema_view.view c.args.schema.now) c.args.account.now c.loop-id.account so.0.done (standing above f)
    (all_done c.args.numbers.now c.loop-id.id-index (standing above f) so.0 (at_drop_all (λ xs. xs) c.args.numbers.now c.loop-id.id-index (omega arith))) so.1

pub returns-clause-news : goal.returns-clause-news
returns-clause-news c above f stands are =
    let so = c.loop-id.invariant.entered above f stands are in
    so.2 ∙ ap (map (news_of (schema_view.view c.args.schema.now)))
    (all_done c.args.numbers.now c.loop-id.id-index (standing above f) so.0 (at_drop_all (λ xs. xs) c.args.numbers.now c.loop-id.id-index (omega arith)))

pub returns-clause-reads : goal.returns-clause-reads
returns-clause-reads c above f stands are =
    let so = c.loop-id.invariant.entered above f stands are in
    read_all (schema_view.view c.args.schema.now) 9 c.args.numbers.now c.loop-id.id-index above f so.0 _ _ so.3
    (all_done c.args.numbers.now c.loop-id.id-index (standing above f) so.0 (at_drop_all (λ xs. xs) c.args.numbers.now c.loop-id.id-index (omega arith)))

pub returns-in_err-absences-clause-reads : goal.returns-in_err-absences-clause-reads
returns-in_err-absences-clause-reads c above f stands are =
    let first = store_of c.args.counted.now in
    let here = store_of c.loop-id.counted in
    let so = c.loop-id.invariant.entered above f stands are in
    let i = c.loop-id.id-index in
    let numbers = c.args.numbers.now in
    let id : NodeId = get_or numbers i (record { 0 = 0 }) in
    let n = next numbers i (standing above f) id so.0 (at_drop_more (λ xs. xs) numbers i (record { 0 = 0 }) (omega arith)) in
    let there = there_read first here id n.here c.loop-id.invariant.kept (next_stands first numbers i above f id so.0 n stands) in
    read_some (schema_view.view c.args.schema.now) 9 numbers i above f so.0 _ _ so.3 _ id n
    (judged_read (schema_view.view c.args.schema.now) n.here _ _ _ (c.in_err-absences.ensures.reads n.here there) (omega arith))

pub returns-in_err-judged-clause-reads : goal.returns-in_err-judged-clause-reads
returns-in_err-judged-clause-reads c above f stands are =
    let first = store_of c.args.counted.now in
    let here = store_of c.loop-id.counted in
    let so = c.loop-id.invariant.entered above f stands are in
    let i = c.loop-id.id-index in
    let numbers = c.args.numbers.now in
    let id : NodeId = get_or numbers i (record { 0 = 0 }) in
    let n = next numbers i (standing above f) id so.0 (at_drop_more (λ xs. xs) numbers i (record { 0 = 0 }) (omega arith)) in
    let there = there_read first here id n.here c.loop-id.invariant.kept (next_stands first numbers i above f id so.0 n stands) in
    read_some (schema_view.view c.args.schema.now) 9 numbers i above f so.0 _ _ so.3 _ id n
    (judged_read (schema_view.view c.args.schema.now) n.here _ _ _ (c.in_ok-absences.ensures.reads n.here there) c.in_err-judged.ensures.reads)

pub returns-in_err-push-clause-reads : goal.returns-in_err-push-clause-reads
returns-in_err-push-clause-reads c above f stands are =
    let first = store_of c.args.counted.now in
    let here = store_of c.loop-id.counted in
    let so = c.loop-id.invariant.entered above f stands are in
    let i = c.loop-id.id-index in
    let numbers = c.args.numbers.now in
    let id : NodeId = get_or numbers i (record { 0 = 0 }) in
    let n = next numbers i (standing above f) id so.0 (at_drop_more (λ xs. xs) numbers i (record { 0 = 0 }) (omega arith)) in
    let there = there_read first here id n.here c.loop-id.invariant.kept (next_stands first numbers i above f id so.0 n stands) in
    read_some (schema_view.view c.args.schema.now) 9 numbers i above f so.0 _ _ so.3 _ id n
    (judged_read (schema_view.view c.args.schema.now) n.here _ _ _ (c.in_ok-absences.ensures.reads n.here there) c.in_ok-judged.ensures.reads)
