use Rattle.std.proofs.Common.{OnOk, sym, refl, subst}
use Rattle.std.proofs.lemmas.Result.{on_ok_weaker}
use Rattle.yschema_expand.specs.NamedView.{language_of, modules_of}
use Rattle.yschema_expand.specs.Tasks.{toll, Does, TaskEnds, Leads}
use Rattle.yschema_expand.specs.declared.expanding.Made.{Made}
use Rattle.yschema_expand.proofs.TurnLemmas.{leaves_none, on_ok_all}
use Rattle.yschema_expand.proofs.walking.perform.Goals as goal

pub add_first-requires-clause-ends : goal.add_first-requires-clause-ends
add_first-requires-clause-ends c =
    (subst (TaskEnds (language_of c.args.context.now.named.now) (modules_of c.args.context.now.named.now)) c.in-Add.is c.requires.ends).0

pub add_first-requires-clause-kept : goal.add_first-requires-clause-kept
add_first-requires-clause-kept c =
    (subst (TaskEnds (language_of c.args.context.now.named.now) (modules_of c.args.context.now.named.now)) c.in-Add.is c.requires.ends).1

pub change-requires : goal.change-requires
change-requires c =
    subst (TaskEnds (language_of c.args.context.now.named.now) (modules_of c.args.context.now.named.now)) c.in-Change.is c.requires.ends

pub extend-requires-clause-ends : goal.extend-requires-clause-ends
extend-requires-clause-ends c =
    (subst (TaskEnds (language_of c.args.context.now.named.now) (modules_of c.args.context.now.named.now)) c.in-Extend.is c.requires.ends).0

pub extend-requires-clause-kept : goal.extend-requires-clause-kept
extend-requires-clause-kept c =
    (subst (TaskEnds (language_of c.args.context.now.named.now) (modules_of c.args.context.now.named.now)) c.in-Extend.is c.requires.ends).1

pub bring-requires-clause-ends : goal.bring-requires-clause-ends
bring-requires-clause-ends c =
    (subst (TaskEnds (language_of c.args.context.now.named.now) (modules_of c.args.context.now.named.now)) c.in-Bring.is c.requires.ends).0

pub bring-requires-clause-kept : goal.bring-requires-clause-kept
bring-requires-clause-kept c =
    (subst (TaskEnds (language_of c.args.context.now.named.now) (modules_of c.args.context.now.named.now)) c.in-Bring.is c.requires.ends).1.0

pub bring-requires-clause-given : goal.bring-requires-clause-given
bring-requires-clause-given c =
    (subst (TaskEnds (language_of c.args.context.now.named.now) (modules_of c.args.context.now.named.now)) c.in-Bring.is c.requires.ends).1.1

pub bring-requires-clause-cases : goal.bring-requires-clause-cases
bring-requires-clause-cases c =
    (subst (TaskEnds (language_of c.args.context.now.named.now) (modules_of c.args.context.now.named.now)) c.in-Bring.is c.requires.ends).2

pub hang-requires : goal.hang-requires
hang-requires c =
    subst (TaskEnds (language_of c.args.context.now.named.now) (modules_of c.args.context.now.named.now)) c.in-Hang.is c.requires.ends

pub ask-requires : goal.ask-requires
ask-requires c =
    subst (TaskEnds (language_of c.args.context.now.named.now) (modules_of c.args.context.now.named.now)) c.in-Guard.is c.requires.ends

pub returns-in-Add : goal.returns-in-Add
returns-in-Add c =
    let l = language_of c.args.context.now.named.now in
    let m = modules_of c.args.context.now.named.now in
    subst (λ t. OnOk c.add_first.result (Leads l m (Does l m t) (toll l m t) c.args.tasks.now.items c.add_first.new.tasks.items c.args.made.now c.add_first.new.made)) (sym c.in-Add.is) c.add_first.ensures

pub returns-in-Close : goal.returns-in-Close
returns-in-Close c =
    let l = language_of c.args.context.now.named.now in
    let m = modules_of c.args.context.now.named.now in
    let old = c.args.made.now in
    leaves_none (Does l m) (toll l m) (TaskEnds l m) (Does l m c.args.task) (toll l m c.args.task) c.args.tasks.now.items old (record { table = c.close.new.self; told = old.told })
    (subst (λ t. Does l m t old (record { table = c.close.new.self; told = old.told })) (sym c.in-Close.is) (c.close.ensures, refl))

pub returns-in-Change : goal.returns-in-Change
returns-in-Change c =
    let l = language_of c.args.context.now.named.now in
    let m = modules_of c.args.context.now.named.now in
    on_ok_weaker c.change.result (λ does. leaves_none (Does l m) (toll l m) (TaskEnds l m) (Does l m c.args.task) (toll l m c.args.task) c.args.tasks.now.items c.args.made.now c.change.new.made
    (subst (λ t. Does l m t c.args.made.now c.change.new.made) (sym c.in-Change.is) does)) (on_ok_all _ c.change.result c.change.ensures)

pub returns-in-Extend : goal.returns-in-Extend
returns-in-Extend c =
    let l = language_of c.args.context.now.named.now in
    let m = modules_of c.args.context.now.named.now in
    subst (λ t. OnOk c.extend.result (Leads l m (Does l m t) (toll l m t) c.args.tasks.now.items c.extend.new.tasks.items c.args.made.now c.extend.new.made)) (sym c.in-Extend.is) c.extend.ensures

pub returns-in-Bring : goal.returns-in-Bring
returns-in-Bring c =
    let l = language_of c.args.context.now.named.now in
    let m = modules_of c.args.context.now.named.now in
    subst (λ t. OnOk c.bring.result (Leads l m (Does l m t) (toll l m t) c.args.tasks.now.items c.bring.new.tasks.items c.args.made.now c.bring.new.made)) (sym c.in-Bring.is) c.bring.ensures

pub returns-in-Hang : goal.returns-in-Hang
returns-in-Hang c =
    let l = language_of c.args.context.now.named.now in
    let m = modules_of c.args.context.now.named.now in
    let old = c.args.made.now in
    let new : Made = record { table = c.hang.new.self; told = old.told } in
    leaves_none (Does l m) (toll l m) (TaskEnds l m) (Does l m c.args.task) (toll l m c.args.task) c.args.tasks.now.items old new
    (subst (λ t. Does l m t old new) (sym c.in-Hang.is) (c.hang.ensures, refl))

pub returns-in-Guard : goal.returns-in-Guard
returns-in-Guard c =
    let l = language_of c.args.context.now.named.now in
    let m = modules_of c.args.context.now.named.now in
    on_ok_weaker c.ask.result (λ does. leaves_none (Does l m) (toll l m) (TaskEnds l m) (Does l m c.args.task) (toll l m c.args.task) c.args.tasks.now.items c.args.made.now c.ask.new.made
    (subst (λ t. Does l m t c.args.made.now c.ask.new.made) (sym c.in-Guard.is) does)) (on_ok_all _ c.ask.result c.ask.ensures)
