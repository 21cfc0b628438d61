use Rattle.std.proofs.Common.{map, sym, ap, subst, ◌∙◌}
use Rattle.std.specs.Prelude.{IfOk}
use Rattle.ybase_index.specs.Names.{AreNamesOf}
use Rattle.yschema_plan.specs.Finding.{name_of}
use Rattle.yschema_plan.proofs.PlanLemmas.{nodes_are}
use Rattle.yschema_plan.proofs.plan.Plan.names.Goals as goal

pub returns : goal.returns
returns c =
    let plan = c.args.self.now in
    subst (λ texts. IfOk c.names.result (λ names. AreNamesOf names texts)) (plan.named ∙ ap (map name_of) (sym (nodes_are plan))) c.names.ensures
