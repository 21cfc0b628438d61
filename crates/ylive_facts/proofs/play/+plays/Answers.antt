use Rattle.std.proofs.Common.{◌∙◌, ap, sym, subst, arith}
use Rattle.std.specs.Prelude.{option_to_list}
use Rattle.std.proofs.lemmas.Result.{on_ok_weaker}
use Rattle.yspec.specs.Forest.{size}
use Rattle.yschema_model.specs.Layout.{kind_view, number_of, numbers_of}
use Rattle.yschema_model.specs.View.{view, row_view, label_of, below_of}
use Rattle.ystore.specs.Views.{store_of}
use Rattle.ystore_tree.proofs.PartLemmas.{reads_on}
use Rattle.yspec_play.specs.Absences.{choice_told}
use Rattle.ylive_facts.specs.InPlay.{FindsNode, absence_views}
use Rattle.ylive_facts.specs.Reads.{cases_reads, play_reads}
use Rattle.ylive_facts.specs.Rows.{count_in, listed_in}
use Rattle.ylive_facts.proofs.CaseLemmas.{play_at, play_parts}
use Rattle.ylive_facts.proofs.RowLemmas.{listed_read}
use Rattle.ylive_facts.proofs.PlayLemmas.{row_next, row_ended, choice_found}
use Rattle.ylive_facts.proofs.play.+plays.Goals as goal

pub add_node-returns-in_ok-cases-in-Choice-clause-finds :
    goal.add_node-returns-in_ok-cases-in-Choice-clause-finds
add_node-returns-in_ok-cases-in-Choice-clause-finds t c =
    let start = store_of c.args.counted.now in
    let mid = store_of c.stored_cases.new.counted in
    let with_stored = c.in_ok-with_stored-in-Choice.with_stored.items in
    on_ok_weaker c.add_row.result (λ finds.
    choice_found (view c.args.schema.now) (count_in (listed_in start c.args.row)) (count_in (listed_in mid c.args.row)) (numbers_of c.args.chosen.now) (label_of c.args.child) (below_of c.args.child)
    (row_view c.children.result) (row_view c.children-in-Choice.result) (number_of c.in-Choice.default_case) c.in-Choice.mandatory (absence_views (option_to_list c.choice_told.result))
    (numbers_of with_stored) (numbers_of c.deref-in-Choice.result.now) c.id.result.0 c.args.found.now c.tell.new.self c.add_row.new.found
    (sym (ap (λ n. n.kind) c.node.ensures) ∙ ap kind_view c.in-Choice.is) (ap count_in (listed_read start mid c.args.row c.in_ok-with_stored-in-Choice.ensures.kept))
    c.children.ensures c.children-in-Choice.ensures c.id.ensures c.in_ok-with_stored-in-Choice.ensures.cases (c.choice_told.ensures ∙ ap (λ ids. choice_told c.id.result.0 c.in-Choice.mandatory (numbers_of ids)) c.deref.ensures.value)
    (ap numbers_of c.deref-in-Choice.ensures.value ∙ c.in_ok-cases-in-Choice.ensures) c.in_ok-tell-in-Choice.ensures finds) c.add_row.ensures.finds

pub add_row-loop-child-preserved : goal.add_row-loop-child-preserved
add_row-loop-child-preserved t c =
    let start = store_of c.args.counted.now in
    let now = store_of c.loop-child.counted in
    let is = c.in-Some.ensures.steps in
    let so_far = c.loop-child.invariant in
    let child = c.in-Some.child in
    record {
      more = tt;
      ends = tt;
      smaller = omega (arith, ap size is, so_far.smaller);
      same_reference = c.in_ok-add_node.ensures.same_reference ∙ so_far.same_reference;
      kept = reads_on start now (store_of c.add_node.new.counted) so_far.kept c.in_ok-add_node.ensures.kept;
      reads =
          let was = so_far.reads in
          let more = c.in_ok-add_node.ensures.reads in
          let left = ap play_reads is ∙ play_parts (label_of child) (below_of child) (row_view c.next.new.self) in
          omega (arith, was, more, left);
      plays = row_next (view c.args.schema.now) (count_in (listed_in start c.args.row)) (numbers_of c.args.chosen.now) (row_view c.args.children) (row_view c.loop-child.child-iterator)
          (row_view c.next.new.self) (below_of child) (label_of child) c.args.found.now c.loop-child.found c.add_node.new.found is
          (subst (λ stored. FindsNode (view c.args.schema.now) stored (numbers_of c.args.chosen.now) (label_of child) (below_of child) c.loop-child.found c.add_node.new.found)
          (ap count_in (listed_read start now c.args.row so_far.kept)) c.in_ok-add_node.ensures.finds) so_far.plays;
    }

pub add_row-returns-clause-finds : goal.add_row-returns-clause-finds
add_row-returns-clause-finds t c =
    row_ended (view c.args.schema.now) (count_in (listed_in (store_of c.args.counted.now) c.args.row)) (numbers_of c.args.chosen.now) (row_view c.args.children) (row_view c.loop-child.child-iterator)
    c.args.found.now c.loop-child.found c.in-None.ensures.steps.0 c.loop-child.invariant.plays

pub add_node-returns-in_ok-cases-in-Choice-clause-reads : goal.add_node-returns-in_ok-cases-in-Choice-clause-reads
add_node-returns-in_ok-cases-in-Choice-clause-reads t c =
    let first = c.in_ok-with_stored-in-Choice.ensures.reads in
    let second = c.add_row.ensures.reads in
    let same_first = ap cases_reads c.children.ensures in
    let same_second = ap play_reads c.children-in-Choice.ensures in
    let is = play_at (label_of c.args.child) (below_of c.args.child) _ (sym (ap (λ n. n.kind) c.node.ensures) ∙ ap kind_view c.in-Choice.is) in
    omega (arith, first, second, same_first, same_second, is)
