use Rattle.std.proofs.Common.{true, false, sym, ap, ◌∙◌, refl}
use Rattle.yspec.specs.linking.Planned.{is_leaf}
use Rattle.yschema_plan.specs.NodesView.{node_view}
use Rattle.yschema_resolve.proofs.TupleLemmas.{config_last}
use Rattle.yschema_resolve.proofs.tuples.leaf_config.Goals as goal
use Rattle.yschema_resolve.proofs.tuples.leaf_config.Goals.{else-are_containers-via-then-are_containers+else-is_leaf, else-are_containers-via-else-are_containers}

pub returns-then-is_leaf : goal.returns-then-is_leaf
returns-then-is_leaf c =
    let above = c.in_ok-last.above.now in
    let last = c.in_ok-last.last.now in
    config_last above last c.args.way.now true true c.in_ok-last.ensures.cases.0 (sym c.if-are_containers.true ∙ c.are_containers.ensures)
    (sym c.if-is_leaf.true ∙ c.is_leaf.ensures last.number)

pub returns-else-are_containers : goal.returns-else-are_containers
returns-else-are_containers c =
    let above = c.in_ok-last.above.now in
    let last = c.in_ok-last.last.now in
    elim c.else-are_containers.branch [
      | else-are_containers-via-then-are_containers+else-is_leaf w ↦
          config_last above last c.args.way.now true false c.in_ok-last.ensures.cases.0 (sym w.if-are_containers.true ∙ c.are_containers.ensures)
          (sym w.if-is_leaf.false ∙ w.is_leaf.ensures last.number)
      | else-are_containers-via-else-are_containers w ↦
          config_last above last c.args.way.now false (is_leaf (node_view last)) c.in_ok-last.ensures.cases.0 (sym w.if-are_containers.false ∙ c.are_containers.ensures) refl
    ]
