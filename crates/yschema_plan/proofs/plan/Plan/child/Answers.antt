use Rattle.std.proofs.Common.{◌∙◌, sym, ap}
use Rattle.std.specs.Prelude.{option_map}
use Rattle.yspec.specs.linking.Planned.{child_called, nodes_of}
use Rattle.yspec.specs.linking.SchemaNodes.{number_in}
use Rattle.yschema_plan.specs.Finding.{above_in}
use Rattle.ybase_index.specs.declared.keys.Among.TheVariants as among
use Rattle.yschema_plan.specs.PlanView.{view}
use Rattle.yschema_plan.proofs.PlanLemmas.{nameless}
use Rattle.yschema_plan.proofs.plan.Plan.child.Goals as goal

pub returns-in_err-module : goal.returns-in_err-module
returns-in_err-module c =
    let plan = view c.args.self.now in
    let t = c.args.name.now in
    c.from_residual.ensures
    ∙ sym (ap (λ o. option_map number_in (child_called plan c.args.parent (record { module_number = o; name = t }))) c.in_err-module.was
    ∙ ap (option_map number_in) (nameless (above_in among.Children) c.args.parent t (nodes_of plan)))

pub returns : goal.returns
returns c =
    let plan = view c.args.self.now in
    c.first.ensures ∙ ap (λ o. option_map number_in (child_called plan c.args.parent (record { module_number = o; name = c.args.name.now }))) (sym c.in_ok-module.was)
