use Rattle.ystore_rows.specs.declared.row.Row.TheVariants.{Below}
use Rattle.std.proofs.Common.{arith, ◌∙◌, sym, ap, length}
use Rattle.ystore.specs.Held.{with_play}
use Rattle.ystore.specs.Views.{store_of}
use Rattle.ylive_marks.proofs.TellLemmas.{told_reads, told_so, told_after_read, play_totals, read_faults, read_shapes, one_read, play_read, told_beside}
use Rattle.ylive_marks.proofs.TotalLemmas.{totals_same, tree_same}
use Rattle.ylive_marks.proofs.telling.tell_play.Goals as goal

pub returns-clause-told : goal.returns-clause-told
returns-clause-told c =
    let old = store_of c.args.counted.now in
    let read = store_of c.play_len-less.new.self in
    let mid = store_of c.set_play.new.self in
    let new = store_of c.climb.new.counted in
    told_after_read c.args.row (with_play c.args.play.items) old read new (one_read old read c.play_len-less.ensures.counted.store)
    (told_so c.args.row (with_play c.args.play.items) read mid new c.set_play.ensures.store c.climb.ensures.told c.climb.ensures.kept)

pub returns-clause-totals : goal.returns-clause-totals
returns-clause-totals c f tree all stands most =
    let old = store_of c.args.counted.now in
    let read = store_of c.play_len-less.new.self in
    let mid = store_of c.set_play.new.self in
    let new = store_of c.climb.new.counted in
    let only = one_read old read c.play_len-less.ensures.counted.store in
    play_totals read mid new f (tree_same old read (read_shapes old read only) f tree) (totals_same old read (read_faults old read only) f all)
    c.args.row c.args.play.items _ _ stands c.set_play.ensures.store (c.len-more.ensures ∙ c.args.play.ok.0)
    (c.play_len-less.ensures.length ∙ sym (ap length (play_read old read c.args.row only))) most c.climb.ensures.climbs

pub returns-clause-reads : goal.returns-clause-reads
returns-clause-reads c f tree stands =
    let old = store_of c.args.counted.now in
    let read = store_of c.play_len-less.new.self in
    let only = one_read old read c.play_len-less.ensures.counted.store in
    let one = c.play_len-less.ensures.counted.store.counted in
    let rest = told_reads c.args.row (with_play c.args.play.items) read (store_of c.set_play.new.self) (store_of c.climb.new.counted)
    c.set_play.ensures.store f (tree_same old read (read_shapes old read only) f tree) stands c.climb.ensures.reads in
    omega (arith, one, rest)

pub returns-clause-beside : goal.returns-clause-beside
returns-clause-beside c f x tree stands none =
    let old = store_of c.args.counted.now in
    let read = store_of c.play_len-less.new.self in
    let only = one_read old read c.play_len-less.ensures.counted.store in
    told_beside c.args.row (with_play c.args.play.items) read (store_of c.set_play.new.self) (store_of c.climb.new.counted) _ _
    c.set_play.ensures.store f (tree_same old read (read_shapes old read only) f tree) stands c.climb.ensures.climbs x none
    ∙ (read_faults old read only).totals (Below x)
