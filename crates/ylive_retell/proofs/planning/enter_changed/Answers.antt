use Rattle.std.proofs.Common.{arith}
use Rattle.std.proofs.lemmas.Result.{IfOk-weaker}
use Rattle.ystore.specs.Views.{store_of}
use Rattle.ystore_tree.specs.Ways.{around}
use Rattle.ystore_tree.proofs.SwapLemmas.{undone}
use Rattle.ylive_retell.proofs.PlanLemmas.{hangs_there, within}
use Rattle.ylive_retell.proofs.planning.enter_changed.Goals as goal

pub returns-clause-place : goal.returns-clause-place
returns-clause-place c r =
    let keeps = c.make.ensures.tree r.way r.f r.loose r.g r.left r.at r.swaps r.keeps in
    IfOk-weaker c.enter_place-told.result _ _ (λ told place. place r.way r.g keeps.hangs r.at (within (store_of c.make.new.counted) (around r.way r.g) c.args.swap.above r.left keeps))
    c.enter_place-told.ensures.place

pub returns-clause-absences : goal.returns-clause-absences
returns-clause-absences c r =
    let keeps = c.make.ensures.tree r.way r.f r.loose r.g r.left r.at r.swaps r.keeps in
    IfOk-weaker c.enter_place-told.result _ _ (λ told absences. absences r.g (hangs_there (store_of c.make.new.counted) r.way r.g c.args.swap.above r.at keeps.hangs))
    c.enter_place-told.ensures.absences

pub returns-clause-kept : goal.returns-clause-kept
returns-clause-kept c =
    let r = c.requires in
    undone c.args.swap.above r.way r.at r.f r.loose r.g r.left c.args.swap.schema c.args.swap.change r.swaps (store_of c.args.counted.now) (store_of c.make.new.counted) (store_of c.enter_place-told.new.counted)
    r.keeps c.make.ensures.store c.enter_place-told.ensures.kept (store_of c.undo.new.counted) r.sorted c.undo.ensures.store

pub returns-clause-reads : goal.returns-clause-reads
returns-clause-reads c r above number is =
    let keeps = c.make.ensures.tree r.way r.f r.loose r.g r.left r.at r.swaps r.keeps in
    let made = c.make.ensures.store.reads in
    let place = c.enter_place-told.ensures.reads above number r.way r.g is keeps.hangs r.at (within (store_of c.make.new.counted) (around r.way r.g) c.args.swap.above r.left keeps) in
    let undone = c.undo.ensures.store.reads in
    omega (arith, made, place, undone)
