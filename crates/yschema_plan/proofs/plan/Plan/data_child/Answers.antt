use Rattle.std.proofs.Common.{◌&&◌, Some, ◌∙◌, sym, ap}
use Rattle.std.specs.Prelude.{option_map}
use Rattle.yspec.specs.linking.Planned.{Planned, data_child_called, data_nodes, is_called, is_data, nodes_of, same_number}
use Rattle.yspec.specs.linking.SchemaNodes.{number_in}
use Rattle.yschema_plan.specs.Finding.{above_in}
use Rattle.ybase_index.specs.declared.keys.Among.TheVariants as among
use Rattle.yschema_plan.specs.PlanView.{view}
use Rattle.yschema_plan.proofs.NodeLemmas.{find-filter}
use Rattle.yschema_plan.proofs.PlanLemmas.{nameless}
use Rattle.yschema_plan.proofs.plan.Plan.data_child.Goals as goal

pub returns-in_err-module : goal.returns-in_err-module
returns-in_err-module c =
    let plan = view c.args.self.now in
    let t = c.args.name.now in
    c.from_residual.ensures
    ∙ sym (ap (λ o. option_map number_in (data_child_called plan c.args.scope (record { module_number = o; name = t }))) c.in_err-module.was
    ∙ ap (option_map number_in) (nameless (above_in among.DataNodes) c.args.scope t (data_nodes plan)))

pub returns : goal.returns
returns c =
    let plan = view c.args.self.now in
    c.first.ensures ∙ (ap (option_map number_in) (sym (find-filter is_data (λ (p : Planned). same_number c.args.scope p.scope
    && is_called (record { module_number = Some c.in_ok-module.field-0; name = c.args.name.now }) p) (nodes_of plan)))
    ∙ ap (λ o. option_map number_in (data_child_called plan c.args.scope (record { module_number = o; name = c.args.name.now }))) (sym c.in_ok-module.was))
