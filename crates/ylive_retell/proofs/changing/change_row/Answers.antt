use Rattle.std.proofs.Common.{◌∙◌}
use Rattle.ystore.specs.Views.{store_of}
use Rattle.ystore_tree.specs.Swaps.{swapped}
use Rattle.ystore_tree.specs.Ways.{around}
use Rattle.ylive_marks.proofs.LawLemmas.{tree_kept}
use Rattle.ylive_retell.proofs.ChangeLemmas.{entries_kept, keeps_last, reads_last, told_then, totals_last}
use Rattle.ylive_retell.proofs.PlanLemmas.{ready_read}
use Rattle.ylive_retell.proofs.changing.change_row.Goals as goal

pub returns-clause-keeps : goal.returns-clause-keeps
returns-clause-keeps c r are_old =
    let start = store_of c.args.counted.now in
    let read = store_of c.total_of_gone-less.new.counted in
    let made = store_of c.make.new.counted in
    let ready = ready_read c.args.swap start read c.total_of_gone-less.ensures.kept r in
    let keeps = c.make.ensures.tree r.way r.f r.loose r.g r.left r.at r.swaps ready.keeps in
    let climbs = c.climb.ensures.climbs r.way r.g (tree_kept made (around r.way r.g) c.args.swap.above r.left keeps) r.at in
    keeps_last r.way r.f r.loose r.g r.left c.args.swap.schema c.args.swap.change r.swaps c.args.swap.above r.at
    start read made (store_of c.climb.new.counted) (store_of c.tell_play.new.counted) (store_of c.remove_nodes.new.counted) c.args.old.now c.args.absences.items c.total_of_gone-less.result
    r.keeps c.total_of_gone-less.ensures.kept (swapped c.args.swap.schema c.args.swap.change) c.make.ensures.store keeps
    climbs c.climb.ensures.kept c.tell_play.ensures.told c.remove_nodes.ensures.store are_old

pub returns-clause-told : goal.returns-clause-told
returns-clause-told c r are_old =
    let start = store_of c.args.counted.now in
    let read = store_of c.total_of_gone-less.new.counted in
    let made = store_of c.make.new.counted in
    let ready = ready_read c.args.swap start read c.total_of_gone-less.ensures.kept r in
    let keeps = c.make.ensures.tree r.way r.f r.loose r.g r.left r.at r.swaps ready.keeps in
    let climbs = c.climb.ensures.climbs r.way r.g (tree_kept made (around r.way r.g) c.args.swap.above r.left keeps) r.at in
    told_then r.way r.f r.loose r.g r.left c.args.swap.schema c.args.swap.change r.swaps c.args.swap.above r.at
    start read made (store_of c.climb.new.counted) (store_of c.tell_play.new.counted) (store_of c.remove_nodes.new.counted) c.args.old.now c.args.absences.items c.total_of_gone-less.result
    r.keeps c.total_of_gone-less.ensures.kept (swapped c.args.swap.schema c.args.swap.change) c.make.ensures.store keeps
    climbs c.climb.ensures.kept c.tell_play.ensures.told c.remove_nodes.ensures.store are_old

pub returns-clause-totals : goal.returns-clause-totals
returns-clause-totals c r are_old totals nothing few short =
    let start = store_of c.args.counted.now in
    let read = store_of c.total_of_gone-less.new.counted in
    let made = store_of c.make.new.counted in
    let ready = ready_read c.args.swap start read c.total_of_gone-less.ensures.kept r in
    let keeps = c.make.ensures.tree r.way r.f r.loose r.g r.left r.at r.swaps ready.keeps in
    let climbs = c.climb.ensures.climbs r.way r.g (tree_kept made (around r.way r.g) c.args.swap.above r.left keeps) r.at in
    totals_last r.way r.f r.loose r.g r.left c.args.swap.schema c.args.swap.change r.swaps c.args.swap.above r.at
    start read made (store_of c.climb.new.counted) (store_of c.tell_play.new.counted) (store_of c.remove_nodes.new.counted) c.args.old.now c.args.absences.items c.total_of_gone-less.result
    r.keeps c.total_of_gone-less.ensures.kept (swapped c.args.swap.schema c.args.swap.change) c.make.ensures.store keeps
    climbs c.climb.ensures.kept c.tell_play.ensures.told c.remove_nodes.ensures.store are_old
    totals nothing c.total_of_gone-less.ensures.total few
    (λ tree all stands. c.tell_play.ensures.totals (around r.way r.g) tree all stands short)

pub returns-clause-entries : goal.returns-clause-entries
returns-clause-entries c k =
    entries_kept c.args.old.now (store_of c.tell_play.new.counted) (store_of c.remove_nodes.new.counted) c.remove_nodes.ensures.store k
    ∙ (c.tell_play.ensures.told.kept.entries k
    ∙ (c.climb.ensures.kept.entries k
    ∙ (c.make.ensures.store.entries k ∙ c.total_of_gone-less.ensures.kept.entries k)))

pub returns-clause-reads : goal.returns-clause-reads
returns-clause-reads c r are_old =
    let start = store_of c.args.counted.now in
    let read = store_of c.total_of_gone-less.new.counted in
    let made = store_of c.make.new.counted in
    let ready = ready_read c.args.swap start read c.total_of_gone-less.ensures.kept r in
    let keeps = c.make.ensures.tree r.way r.f r.loose r.g r.left r.at r.swaps ready.keeps in
    let climbs = c.climb.ensures.climbs r.way r.g (tree_kept made (around r.way r.g) c.args.swap.above r.left keeps) r.at in
    reads_last r.way r.f r.loose r.g r.left c.args.swap.schema c.args.swap.change r.swaps c.args.swap.above r.at
    start read made (store_of c.climb.new.counted) (store_of c.tell_play.new.counted) (store_of c.remove_nodes.new.counted) c.args.old.now c.args.absences.items c.total_of_gone-less.result
    r.keeps c.total_of_gone-less.ensures.kept (swapped c.args.swap.schema c.args.swap.change) c.make.ensures.store keeps
    climbs c.climb.ensures.kept c.tell_play.ensures.told c.remove_nodes.ensures.store are_old
    c.total_of_gone-less.ensures.reads (λ tree. c.climb.ensures.reads r.way r.g tree r.at) (λ tree stands. c.tell_play.ensures.reads (around r.way r.g) tree stands)
