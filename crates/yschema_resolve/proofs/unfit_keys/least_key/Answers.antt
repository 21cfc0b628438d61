use Rattle.std.proofs.Common.{[], ap, ◌∙◌}
use Rattle.std.specs.Prelude.{option_and_then}
use Rattle.std.specs.Option.{option_map_or}
use Rattle.yspec.specs.schema.Breaks.{least_from, when}
use Rattle.yspec.specs.linking.NodeBreaks.{broken_at}
use Rattle.yspec.specs.linking.Planned.{node_of}
use Rattle.ylink_grammar.specs.BreakView.{seen}
use Rattle.yschema_plan.specs.NodesView.{node_view}
use Rattle.yschema_plan.specs.PlanView.{view}
use Rattle.yschema_resolve.proofs.unfit_keys.least_key.Goals as goal

pub returns : goal.returns
returns c =
    let plan = view c.args.plan.now in
    let p = node_view c.args.node in
    c.least_above.ensures c.args.node.number
    ∙ ap (λ b. least_from (seen c.args.so_far) (when b (option_map_or (broken_at 12) (option_and_then (node_of plan) p.parent) []))) c.in_ok-unfit.ensures
