use Rattle.std.proofs.Common.{◌+◌, ap, arith}
use Rattle.std.specs.Prelude.{option_map}
use Rattle.yschema_model.specs.View.{view, label_of, below_of, child_view}
use Rattle.ystore.specs.Store.{reads}
use Rattle.ystore.specs.Views.{store_of}
use Rattle.ylive_facts.proofs.CaseLemmas.{child_read, child_reads}
use Rattle.ylive_facts.proofs.PlayLemmas.{over_found, over_nothing}
use Rattle.ylive_facts.proofs.play.in_play_over.Goals as goal
use Rattle.ylive_facts.proofs.play.in_play_over.Goals.{in-Some+in_ok-add_node, in_default}

pub returns-clause-absences : goal.returns-clause-absences
returns-clause-absences c f hangs =
    let s = view c.args.schema.now in
    let child = option_map child_view c.args.child in
    elim c.match-child.branch [
      | in-Some+in_ok-add_node w ↦ (over_found s (store_of c.args.counted.now) c.args.row f child (label_of w.in-Some.child) (below_of w.in-Some.child) c.new-found.result w.add_node.new.found
          c.match-child.found (ap (option_map child_view) w.in-Some.is) w.found-is hangs c.new-found.ensures.absences c.new-found.ensures.defaults w.in_ok-add_node.ensures.finds).0
      | in_default w ↦ (over_nothing s f child c.new-found.result c.match-child.found (ap (option_map child_view) w.in_default.is) w.found-is
          c.new-found.ensures.absences c.new-found.ensures.defaults).0
    ]

pub returns-clause-defaults : goal.returns-clause-defaults
returns-clause-defaults c f hangs =
    let s = view c.args.schema.now in
    let child = option_map child_view c.args.child in
    elim c.match-child.branch [
      | in-Some+in_ok-add_node w ↦ (over_found s (store_of c.args.counted.now) c.args.row f child (label_of w.in-Some.child) (below_of w.in-Some.child) c.new-found.result w.add_node.new.found
          c.match-child.found (ap (option_map child_view) w.in-Some.is) w.found-is hangs c.new-found.ensures.absences c.new-found.ensures.defaults w.in_ok-add_node.ensures.finds).1
      | in_default w ↦ (over_nothing s f child c.new-found.result c.match-child.found (ap (option_map child_view) w.in_default.is) w.found-is
          c.new-found.ensures.absences c.new-found.ensures.defaults).1
    ]

pub returns-clause-reads : goal.returns-clause-reads
returns-clause-reads c above number is =
    let child = option_map child_view c.args.child in
    elim c.match-child.branch [
      | in-Some+in_ok-add_node w ↦ child_read (view c.args.schema.now) above number child _ _ c.args.schema.now.fit is
          (let one = w.in_ok-add_node.ensures.reads in let some = ap (λ o. child_reads (option_map child_view o)) w.in-Some.is in
          let same = ap (λ x. reads (store_of x)) w.counted-is in omega (arith, one, some, same))
      | in_default w ↦ let same = ap (λ x. reads (store_of x)) w.counted-is in omega (arith, same)
    ]

pub returns-in_err-add_node-clause-reads : goal.returns-in_err-add_node-clause-reads
returns-in_err-add_node-clause-reads c above number is =
    child_read (view c.args.schema.now) above number (option_map child_view c.args.child) _ _ c.args.schema.now.fit is
    (let one = c.in_err-add_node.ensures.reads in let some = ap (λ o. child_reads (option_map child_view o)) c.in-Some.is in omega (arith, one, some))
