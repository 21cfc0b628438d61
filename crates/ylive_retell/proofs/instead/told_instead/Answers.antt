use Rattle.std.proofs.Common.{◌∙◌, ◌-◌, ◌++◌, ap, ap₂, arith, drop, length, take}
use Rattle.std.specs.Prelude.{option_map}
use Rattle.ycheck.specs.View.{code_view}
use Rattle.yschema_model.specs.View.{child_view}
use Rattle.ystore.specs.Store.{play_at}
use Rattle.ystore.specs.Views.{store_of}
use Rattle.ystore_tree.proofs.PartLemmas.{one_read, reads_on}
use Rattle.yspec_play.specs.Over.{number_over, told_before}
use Rattle.ylive_facts.specs.InPlay.{absence_views}
use Rattle.ylive_retell.proofs.InsteadLemmas.{instead_is, play_read}
use Rattle.ylive_retell.proofs.instead.told_instead.Goals as goal

pub returns-clause-told : goal.returns-clause-told
returns-clause-told c =
    let start = store_of c.args.counted.now in
    let first = store_of c.play_len-length.new.self in
    let second = store_of c.told_before-before.new.counted in
    let third = store_of c.copy_told.new.counted in
    let to_first = one_read start first c.play_len-length.ensures.counted.store in
    let to_second = reads_on start first second to_first c.told_before-before.ensures.kept in
    let to_third = reads_on start second third to_second c.in_ok-copy_told.ensures.kept in
    let child = number_over (option_map child_view c.args.child) in
    let row = c.args.row in
    let xs = play_at start row in
    let long = c.play_len-length.ensures.length in
    let fits = c.play_len-length.type_inv in
    let from = c.saturating_add.result in
    instead_is (λ a. (code_view a.0, a.1.0)) child xs c.args.told.items c.copy_told.new.all.items c.append.new.self.items c.copy_told-2.new.all.items c.args.count
    c.told_before-before.result from (c.told_before-before.ensures.before ∙ ap (λ ps. told_before child (absence_views ps)) (play_read start first to_first row))
    c.saturating_add.ensures (omega (arith, long, fits))
    (c.in_ok-copy_told.ensures.told ∙ ap₂ (λ ys ps. ys ++ take (c.told_before-before.result - 0) (drop 0 ps)) c.new-all.ensures.items (play_read start second to_second row))
    c.in_ok-append.ensures.items
    (c.in_ok-copy_told-2.ensures.told ∙ ap₂ (λ m ps. c.append.new.self.items ++ take (m - from) (drop from ps)) long (play_read start third to_third row))

pub returns-clause-reads : goal.returns-clause-reads
returns-clause-reads c =
    let start = store_of c.args.counted.now in
    let first = store_of c.play_len-length.new.self in
    let one = c.play_len-length.ensures.counted.store.counted in
    let same = ap length (play_read start first (one_read start first c.play_len-length.ensures.counted.store) c.args.row) in
    let two = c.told_before-before.ensures.reads in
    let within = c.told_before-before.ensures.within in
    let long = c.play_len-length.ensures.length in
    let fits = c.play_len-length.type_inv in
    let three = c.in_ok-copy_told.ensures.reads in
    let from = c.saturating_add.ensures in
    let four = c.in_ok-copy_told-2.ensures.reads in
    omega (arith, one, same, two, within, long, fits, three, from, four)

pub returns-in_err-copy_told-clause-reads : goal.returns-in_err-copy_told-clause-reads
returns-in_err-copy_told-clause-reads c =
    let start = store_of c.args.counted.now in
    let first = store_of c.play_len-length.new.self in
    let one = c.play_len-length.ensures.counted.store.counted in
    let same = ap length (play_read start first (one_read start first c.play_len-length.ensures.counted.store) c.args.row) in
    let two = c.told_before-before.ensures.reads in
    let within = c.told_before-before.ensures.within in
    let long = c.play_len-length.ensures.length in
    let fits = c.play_len-length.type_inv in
    let three = c.in_err-copy_told.ensures.reads in
    omega (arith, one, same, two, within, three)

pub returns-in_err-append-clause-reads : goal.returns-in_err-append-clause-reads
returns-in_err-append-clause-reads c =
    let start = store_of c.args.counted.now in
    let first = store_of c.play_len-length.new.self in
    let one = c.play_len-length.ensures.counted.store.counted in
    let same = ap length (play_read start first (one_read start first c.play_len-length.ensures.counted.store) c.args.row) in
    let two = c.told_before-before.ensures.reads in
    let within = c.told_before-before.ensures.within in
    let long = c.play_len-length.ensures.length in
    let fits = c.play_len-length.type_inv in
    let three = c.in_ok-copy_told.ensures.reads in
    omega (arith, one, same, two, within, three)

pub returns-in_err-copy_told-2-clause-reads : goal.returns-in_err-copy_told-2-clause-reads
returns-in_err-copy_told-2-clause-reads c =
    let start = store_of c.args.counted.now in
    let first = store_of c.play_len-length.new.self in
    let one = c.play_len-length.ensures.counted.store.counted in
    let same = ap length (play_read start first (one_read start first c.play_len-length.ensures.counted.store) c.args.row) in
    let two = c.told_before-before.ensures.reads in
    let within = c.told_before-before.ensures.within in
    let long = c.play_len-length.ensures.length in
    let fits = c.play_len-length.type_inv in
    let three = c.in_ok-copy_told.ensures.reads in
    let from = c.saturating_add.ensures in
    let four = c.in_err-copy_told-2.ensures.reads in
    omega (arith, one, same, two, within, long, fits, three, from, four)
