use Rattle.std.proofs.Common.{OnOk, sym, subst}
use Rattle.yschema_augment.specs.Placing.{toll, Always, Does, Leads}
use Rattle.yschema_expand.proofs.TurnLemmas.{leaves_none}
use Rattle.yschema_augment.proofs.arranging.perform.Goals as goal

pub returns-in-Row : goal.returns-in-Row
returns-in-Row c =
    let x = c.args.all.now in
    subst (λ t. OnOk c.add_first.result (Leads x (Does x t) (toll x t) c.args.tasks.now.items c.add_first.new.tasks.items c.args.made.now c.add_first.new.made)) (sym c.in-Row.is) c.add_first.ensures

pub returns-in-Inner : goal.returns-in-Inner
returns-in-Inner c =
    let x = c.args.all.now in
    subst (λ t. OnOk c.add_inner.result (Leads x (Does x t) (toll x t) c.args.tasks.now.items c.add_inner.new.tasks.items c.args.made.now c.args.made.now)) (sym c.in-Inner.is) (c.add_inner.ensures c.args.made.now)

pub returns-in-Hang : goal.returns-in-Hang
returns-in-Hang c =
    let x = c.args.all.now in
    subst (λ t. OnOk c.hang.result (Leads x (Does x t) (toll x t) c.args.tasks.now.items c.hang.new.tasks.items c.args.made.now c.args.made.now)) (sym c.in-Hang.is) (c.hang.ensures c.args.made.now)

pub returns-in-Close : goal.returns-in-Close
returns-in-Close c =
    let x = c.args.all.now in
    let old = c.args.made.now in
    leaves_none (Does x) (toll x) Always (Does x c.args.task) (toll x c.args.task) c.args.tasks.now.items old c.close.new.self
    (subst (λ t. Does x t old c.close.new.self) (sym c.in-Close.is) c.close.ensures)
