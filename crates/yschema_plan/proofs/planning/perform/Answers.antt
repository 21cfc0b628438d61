use Rattle.std.proofs.Common.{sym, subst, OnOk}
use Rattle.yschema_expand.proofs.TurnLemmas.{leaves_none}
use Rattle.yschema_plan.specs.Planning.{toll, Does, IsTask, Leads}
use Rattle.yschema_plan.proofs.planning.perform.Goals as goal

pub returns-in-Add : goal.returns-in-Add
returns-in-Add c = subst (λ t. OnOk c.add_first.result (Leads (Does t) (toll t) c.args.tasks.now.items c.add_first.new.tasks.items c.args.table.now c.add_first.new.table)) (sym c.in-Add.is) c.add_first.ensures

pub returns-in-Close : goal.returns-in-Close
returns-in-Close c = leaves_none Does toll IsTask (Does c.args.task) (toll c.args.task) c.args.tasks.now.items c.args.table.now c.close.new.self
    (subst (λ t. Does t c.args.table.now c.close.new.self) (sym c.in-Close.is) c.close.ensures)
