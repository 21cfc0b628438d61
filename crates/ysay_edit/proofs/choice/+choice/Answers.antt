use Rattle.std.proofs.Common.{ap}
use Rattle.std.specs.Prelude.{option_map}
use Rattle.yschema_model.specs.View.{below_of, label_of, row_view}
use Rattle.yschema_model.proofs.RowLemmas.{fewer_after}
use Rattle.ysay_edit.proofs.ChoiceLemmas.{found_here, none_here, none_left}
use Rattle.ysay_edit.proofs.choice.+choice.Goals as goal

pub passed_in-loop-child-preserved : goal.passed_in-loop-child-preserved
passed_in-loop-child-preserved t c =
    let child = c.in-Some.child in
    record {
      more = tt;
      ends = tt;
      smaller = fewer_after (label_of child) (below_of child) (row_view c.next.new.self) (row_view c.loop-child.child-iterator) _ c.in-Some.ensures.steps c.loop-child.invariant.smaller;
      left = none_here c.args.name.now (label_of child) (row_view c.loop-child.child-iterator) (below_of child) (row_view c.next.new.self) _ _ c.in-Some.ensures.steps
          c.passed_node.ensures c.loop-child.invariant.left (ap (option_map (λ t. t.now)) c.in-None-passed_node.is);
    }

pub passed_in-returns-in-Some-passed_node : goal.passed_in-returns-in-Some-passed_node
passed_in-returns-in-Some-passed_node t c =
    let child = c.in-Some.child in
    found_here c.args.name.now (label_of child) (row_view c.loop-child.child-iterator) (below_of child) (row_view c.next.new.self) _ _ c.in-Some.ensures.steps
    c.passed_node.ensures c.loop-child.invariant.left _ (ap (option_map (λ t. t.now)) c.in-Some-passed_node.is)

pub passed_in-returns : goal.passed_in-returns
passed_in-returns t c = none_left c.args.name.now (row_view c.loop-child.child-iterator) _ c.in-None.ensures.steps.0 c.loop-child.invariant.left
