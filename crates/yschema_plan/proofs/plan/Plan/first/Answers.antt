use Rattle.std.proofs.Common.{sym, ap, ◌∙◌}
use Rattle.std.specs.Prelude.{find, option_map}
use Rattle.yspec.specs.linking.SchemaNodes.{number_in}
use Rattle.yschema_plan.specs.Finding.{is_found}
use Rattle.yschema_plan.proofs.PlanLemmas.{nodes_are}
use Rattle.yschema_plan.proofs.plan.Plan.first.Goals as goal

pub returns : goal.returns
returns c =
    let plan = c.args.self.now in
    let test = is_found c.args.among c.args.above c.args.«module» c.args.name.now in
    c.first.ensures ∙ (plan.indexed c.args.among c.args.above c.args.«module» c.args.name.now
    ∙ ap (λ ps. option_map number_in (find test ps)) (sym (nodes_are plan)))
