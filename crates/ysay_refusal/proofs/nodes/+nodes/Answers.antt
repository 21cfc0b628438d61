use Rattle.std.proofs.Common.{map, sym, ap, ◌∙◌}
use Rattle.yspec.specs.schema.Schema as spec
use Rattle.yspec.specs.schema.Schema.{is_data}
use Rattle.yschema_model.specs.View.{below_of, label_of, row_view}
use Rattle.yschema_model.proofs.RowLemmas.{fewer_after}
use Rattle.ysay_refusal.proofs.NodeLemmas.{goes_on, all_added, pushed, passed_on}
use Rattle.ysay_refusal.proofs.nodes.+nodes.Goals as goal

pub add_data_row-loop-child-preserved : goal.add_data_row-loop-child-preserved
add_data_row-loop-child-preserved t c =
    let child = c.in-Some.child in
    record {
      more = tt;
      ends = tt;
      smaller = fewer_after (label_of child) (below_of child) (row_view c.next.new.self) (row_view c.loop-child.child-iterator) _ c.in-Some.ensures.steps c.loop-child.invariant.smaller;
      nodes = goes_on (label_of child) (row_view c.loop-child.child-iterator) (below_of child) (row_view c.next.new.self) (map label_of c.loop-child.nodes.items)
          (map label_of c.add_data_node.new.nodes.items) _ c.in-Some.ensures.steps c.in_ok-add_data_node.ensures c.loop-child.invariant.nodes;
    }

pub add_data_row-returns : goal.add_data_row-returns
add_data_row-returns t c =
    all_added (row_view c.loop-child.child-iterator) (map label_of c.loop-child.nodes.items) _ c.in-None.ensures.steps.0 c.loop-child.invariant.nodes

pub add_data_node-returns-in_ok-push : goal.add_data_node-returns-in_ok-push
add_data_node-returns-in_ok-push t c =
    pushed c.args.nodes.now.items c.push.new.self.items c.args.child c.in_ok-push.ensures.items
    (ap (λ (n : spec.SchemaNode). is_data n.kind) (sym c.node.ensures) ∙ (sym c.is_data.ensures ∙ c.if-is_data.true))

pub add_data_node-returns-else-is_data : goal.add_data_node-returns-else-is_data
add_data_node-returns-else-is_data t c =
    passed_on c.add_data_row.result (map label_of c.add_data_row.new.nodes.items) (map label_of c.args.nodes.now.items) (label_of c.args.child) (below_of c.args.child)
    (row_view c.children.result) (ap (λ (n : spec.SchemaNode). is_data n.kind) (sym c.node.ensures) ∙ (sym c.is_data.ensures ∙ c.if-is_data.false))
    c.children.ensures c.add_data_row.ensures
