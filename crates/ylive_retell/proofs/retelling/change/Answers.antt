use Rattle.std.proofs.Common.{ap, arith, subst}
use Rattle.ystore.specs.Views.{store_of}
use Rattle.ylive_marks.proofs.LawLemmas.{faults_shapes}
use Rattle.ystore_tree.proofs.FrameLemmas.{keeps_same}
use Rattle.yspec.specs.Forest.{end}
use Rattle.ystore_tree.specs.Ways.{around}
use Rattle.ylive_retell.specs.Growing.{awaited_of, times_joined}
use Rattle.ylive_retell.proofs.AgainLemmas.{ready_on}
use Rattle.ylive_retell.proofs.JoiningLemmas.{shapes_of}
use Rattle.ylive_retell.proofs.TidyLemmas.{tidied_rows}
use Rattle.ylive_retell.proofs.WholeLemmas.{JoinsKeys, ReadsJoined, ReadsWithdrawn, Withdraws, reads_whole, told_whole}
use Rattle.ylive_retell.proofs.retelling.change.Goals as goal

pub change_row-requires : goal.change_row-requires
change_row-requires c =
    ready_on c.args.swap (store_of c.args.counted.now) (store_of c.withdraw.new.counted) c.withdraw.ensures.kept c.requires.ready

pub join_all-requires : goal.join_all-requires
join_all-requires c key =
    let were = c.requires.awaited key in
    let first = c.withdraw.ensures.awaited key in
    let second = ap awaited_of (c.change_row.ensures.entries key) in
    let third = ap awaited_of (c.tell_all.ensures.kept.entries key) in
    let same = ap (times_joined key) c.deref-2.ensures.value in
    omega (arith, were, first, second, third, same)

pub returns-clause-keeps : goal.returns-clause-keeps
returns-clause-keeps c r are_old =
    let told = store_of c.tell_all.new.counted in
    let met = store_of c.join_all.new.counted in
    let last = store_of c.tidy_all.new.counted in
    keeps_same met last (shapes_of met last (tidied_rows met last c.tidy_all.ensures.tidies)) (around r.way r.g) c.args.swap.above end
    (keeps_same told met (shapes_of told met c.join_all.ensures.kept) (around r.way r.g) c.args.swap.above end
    (keeps_same (store_of c.change_row.new.counted) told (faults_shapes (store_of c.change_row.new.counted) told c.tell_all.ensures.kept) (around r.way r.g) c.args.swap.above end
    (c.change_row.ensures.keeps (ready_on c.args.swap (store_of c.args.counted.now) (store_of c.withdraw.new.counted) c.withdraw.ensures.kept r) are_old)))

pub returns-clause-told : goal.returns-clause-told
returns-clause-told c schema r are_old is fresh plans there size_new few_rows =
    let start = store_of c.args.counted.now in
    let mid = store_of c.withdraw.new.counted in
    let q = ready_on c.args.swap start mid c.withdraw.ensures.kept r in
    told_whole schema c.args.swap c.args.plan start mid (store_of c.change_row.new.counted) (store_of c.tell_all.new.counted) (store_of c.join_all.new.counted)
    (store_of c.tidy_all.new.counted) r is fresh plans there size_new few_rows
    (subst (Withdraws start mid c.args.plan.comes.items c.args.plan.goes.items) c.deref.ensures.value c.withdraw.ensures.follows) c.withdraw.ensures.instances
    (c.change_row.ensures.keeps q are_old) (c.change_row.ensures.totals q are_old) (c.change_row.ensures.told q are_old) c.change_row.ensures.entries
    c.tell_all.ensures.told c.tell_all.ensures.totals c.tell_all.ensures.kept
    (subst (JoinsKeys (store_of c.tell_all.new.counted) (store_of c.join_all.new.counted)) c.deref-2.ensures.value c.join_all.ensures.follows) c.join_all.ensures.instances c.tidy_all.ensures.tidies

pub returns-clause-reads : goal.returns-clause-reads
returns-clause-reads c schema r are_old is fresh plans there size_new few_rows =
    let start = store_of c.args.counted.now in
    let mid = store_of c.withdraw.new.counted in
    let q = ready_on c.args.swap start mid c.withdraw.ensures.kept r in
    reads_whole schema c.args.swap c.args.plan start mid (store_of c.change_row.new.counted) (store_of c.tell_all.new.counted) (store_of c.join_all.new.counted)
    (store_of c.tidy_all.new.counted) r is fresh plans there size_new few_rows
    (subst (Withdraws start mid c.args.plan.comes.items c.args.plan.goes.items) c.deref.ensures.value c.withdraw.ensures.follows) c.withdraw.ensures.instances
    (c.change_row.ensures.keeps q are_old) (c.change_row.ensures.totals q are_old) (c.change_row.ensures.told q are_old) c.change_row.ensures.entries
    c.tell_all.ensures.told c.tell_all.ensures.totals c.tell_all.ensures.kept
    (subst (JoinsKeys (store_of c.tell_all.new.counted) (store_of c.join_all.new.counted)) c.deref-2.ensures.value c.join_all.ensures.follows) c.join_all.ensures.instances c.tidy_all.ensures.tidies
    (subst (ReadsWithdrawn start mid c.args.plan.comes.items c.args.plan.goes.items) c.deref.ensures.value c.withdraw.ensures.reads)
    (c.change_row.ensures.reads q are_old) c.tell_all.ensures.reads
    (subst (ReadsJoined (store_of c.tell_all.new.counted) (store_of c.join_all.new.counted)) c.deref-2.ensures.value c.join_all.ensures.reads) c.tidy_all.ensures.reads
