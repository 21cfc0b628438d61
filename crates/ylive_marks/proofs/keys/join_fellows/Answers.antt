use Rattle.std.proofs.Common.{arith, ◌∙◌, ap, length, slice_get, sym}
use Rattle.ystore.specs.Entries.{with_node}
use Rattle.ystore.specs.Views.{store_of}
use Rattle.ylive_marks.proofs.TellLemmas.{one_read}
use Rattle.ylive_marks.proofs.JoinLemmas.{enters, read_enters, key_changed, joined_fellows, holders_read, reads_on}
use Rattle.ylive_marks.proofs.keys.join_fellows.Goals as goal

pub fellow_of-fellow-requires : goal.fellow_of-fellow-requires
fellow_of-fellow-requires c =
    let first = store_of c.args.counted.now in
    let counted = store_of c.holder_count-fellows.new.self in
    c.holder_count-fellows.ensures.count
    ∙ ap length (sym (holders_read first counted c.args.key.now (one_read first counted c.holder_count-fellows.ensures.counted.store)))

pub returns-clause-kept : goal.returns-clause-kept
returns-clause-kept c =
    let first = store_of c.args.counted.now in
    let counted = store_of c.holder_count-fellows.new.self in
    let read = store_of c.fellow_of-fellow.new.counted in
    let second = store_of c.add_holder.new.self in
    let third = store_of c.tell_fellows.new.counted in
    let reads = reads_on first counted read (one_read first counted c.holder_count-fellows.ensures.counted.store) c.fellow_of-fellow.ensures.kept in
    key_changed c.args.key.now (with_node c.args.id) first second third
    (read_enters c.args.key.now (with_node c.args.id) first read second reads (enters c.args.key.now (with_node c.args.id) read second c.add_holder.ensures.store)) c.tell_fellows.ensures.kept

pub returns-clause-follows : goal.returns-clause-follows
returns-clause-follows c is_flag keys f tree agrees all stands free can there =
    let first = store_of c.args.counted.now in
    let counted = store_of c.holder_count-fellows.new.self in
    let read = store_of c.fellow_of-fellow.new.counted in
    let second = store_of c.add_holder.new.self in
    let third = store_of c.tell_fellows.new.counted in
    let one = one_read first counted c.holder_count-fellows.ensures.counted.store in
    let reads = reads_on first counted read one c.fellow_of-fellow.ensures.kept in
    joined_fellows c.keys_alike.ensures c.args.key.now c.args.id keys f first second third c.tell_fellows.ensures.kept tree agrees all
    (read_enters c.args.key.now (with_node c.args.id) first read second reads (enters c.args.key.now (with_node c.args.id) read second c.add_holder.ensures.store))
    stands free there c.args.number c.fellow_of-fellow.result c.holder_count-fellows.result is_flag can
    (c.fellow_of-fellow.ensures.holder ∙ ap (λ ids. slice_get ids 0) (holders_read first counted c.args.key.now one))
    c.holder_count-fellows.ensures.count c.tell_fellows.ensures.told (λ t a touches differ. c.tell_fellows.ensures.totals f t a touches differ)
    (let a = c.holder_count-fellows.ensures.counted.store.counted in let b = c.fellow_of-fellow.ensures.reads in
    let e = c.add_holder.ensures.store.reads in omega (arith, a, b, e))
    (λ t touches. (c.tell_fellows.ensures.reads f t touches, c.tell_fellows.ensures.beside f t touches))
