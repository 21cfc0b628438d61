use Rattle.std.proofs.Common.{◌++◌, map, option_map, sym, ap, ◌∙◌}
use Rattle.std.specs.List.{flat_map}
use Rattle.std.proofs.lemmas.List.{append-nil}
use Rattle.yschema_plan.specs.NodesView.{node_view}
use Rattle.yschema_plan.specs.PlanView.{view}
use Rattle.yschema_resolve.specs.TuplesView.{children_named}
use Rattle.yschema_resolve.proofs.TupleLemmas.{children_are}
use Rattle.yschema_resolve.proofs.tuples.key_children.Goals as goal

pub returns : goal.returns
returns c =
    let plan = view c.args.plan.now in
    let list = node_view c.args.list in
    let found = map (option_map node_view) c.loop-statement.children.items in
    sym (append-nil found) ∙ (ap (λ rest. found ++ flat_map (children_named plan list) rest) (sym c.in-None.ensures.steps.0)
    ∙ (c.loop-statement.invariant.so_far ∙ children_are plan list))
