use Rattle.std.proofs.Common.{arith, ◌∙◌, ap, length, slice_get, sym}
use Rattle.ystore.specs.Entries.{without_node}
use Rattle.ystore.specs.Views.{store_of}
use Rattle.ylive_marks.proofs.TellLemmas.{one_read}
use Rattle.ylive_marks.proofs.JoinLemmas.{enters, enters_read, key_changed, left_fellows, holders_read, reads_on}
use Rattle.ylive_marks.proofs.keys.leave_fellows.Goals as goal

pub fellow_of-fellow-requires : goal.fellow_of-fellow-requires
fellow_of-fellow-requires c =
    let taken = store_of c.take_holder.new.self in
    let counted = store_of c.holder_count-fellows.new.self in
    c.holder_count-fellows.ensures.count
    ∙ ap length (sym (holders_read taken counted c.args.key.now (one_read taken counted c.holder_count-fellows.ensures.counted.store)))

pub returns-clause-kept : goal.returns-clause-kept
returns-clause-kept c =
    let first = store_of c.args.counted.now in
    let taken = store_of c.take_holder.new.self in
    let counted = store_of c.holder_count-fellows.new.self in
    let second = store_of c.fellow_of-fellow.new.counted in
    let third = store_of c.tell_fellows.new.counted in
    let reads = reads_on taken counted second (one_read taken counted c.holder_count-fellows.ensures.counted.store) c.fellow_of-fellow.ensures.kept in
    key_changed c.args.key.now (without_node c.args.id) first second third
    (enters_read c.args.key.now (without_node c.args.id) first taken second (enters c.args.key.now (without_node c.args.id) first taken c.take_holder.ensures.store) reads) c.tell_fellows.ensures.kept

pub returns-clause-follows : goal.returns-clause-follows
returns-clause-follows c is_flag keys f tree agrees all has =
    let first = store_of c.args.counted.now in
    let taken = store_of c.take_holder.new.self in
    let counted = store_of c.holder_count-fellows.new.self in
    let second = store_of c.fellow_of-fellow.new.counted in
    let third = store_of c.tell_fellows.new.counted in
    let one = one_read taken counted c.holder_count-fellows.ensures.counted.store in
    let two = c.fellow_of-fellow.ensures.kept in
    let reads = reads_on taken counted second one two in
    left_fellows c.keys_alike.ensures c.args.key.now c.args.id keys f first second third c.tell_fellows.ensures.kept tree agrees all
    (enters_read c.args.key.now (without_node c.args.id) first taken second (enters c.args.key.now (without_node c.args.id) first taken c.take_holder.ensures.store) reads)
    has c.args.number c.fellow_of-fellow.result c.holder_count-fellows.result is_flag
    (c.fellow_of-fellow.ensures.holder ∙ ap (λ ids. slice_get ids 0) (sym (holders_read counted second c.args.key.now two)))
    (c.holder_count-fellows.ensures.count ∙ ap length (sym (holders_read taken second c.args.key.now reads)))
    c.tell_fellows.ensures.told (λ t a touches differ. c.tell_fellows.ensures.totals f t a touches differ)
    (let a = c.holder_count-fellows.ensures.counted.store.counted in let b = c.fellow_of-fellow.ensures.reads in
    let e = c.take_holder.ensures.store.reads in omega (arith, a, b, e))
    (λ t touches. (c.tell_fellows.ensures.reads f t touches, c.tell_fellows.ensures.beside f t touches))
