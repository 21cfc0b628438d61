use Rattle.std.proofs.Common.{sym, ◌∙◌}
use Rattle.std.specs.Prelude.{◌&&◌}
use Rattle.yspec.specs.linking.Planned as spec
use Rattle.yspec.specs.linking.Planned.{same_number, is_called, is_data, nodes_of}
use Rattle.ylink_names.specs.PrefixView.{node_name_view}
use Rattle.yschema_plan.specs.PlanView.{view}
use Rattle.yschema_plan.proofs.NodeLemmas.{by_number, find-filter}
use Rattle.yschema_plan.proofs.plan.Plan.data_child_called.Goals as goal

pub returns : goal.returns
returns c =
    let plan = c.args.self.now in
    let name = node_name_view c.args.name in
    c.at.ensures ∙ by_number plan (λ p. is_data p && (same_number c.args.scope p.scope && is_called name p)) c.in_ok-data_child.field-0
    (spec.data_child_called (view plan) c.args.scope name)
    (find-filter is_data (λ p. same_number c.args.scope p.scope && is_called name p) (nodes_of (view plan))) (sym c.in_ok-data_child.was ∙ c.data_child.ensures)
