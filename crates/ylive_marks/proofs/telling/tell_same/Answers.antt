use Rattle.ystore.specs.Held.{with_same}
use Rattle.ystore.specs.Views.{store_of}
use Rattle.ystore_rows.specs.declared.row.Row.TheVariants.{Below}
use Rattle.ylive_marks.proofs.TellLemmas.{told_reads, told_so, same_totals, told_beside}
use Rattle.ylive_marks.proofs.telling.tell_same.Goals as goal

pub returns-clause-told : goal.returns-clause-told
returns-clause-told c =
    told_so (Below c.args.id) (with_same c.args.number c.args.is_same) (store_of c.args.counted.now) (store_of c.set_same.new.self) (store_of c.climb.new.counted)
    c.set_same.ensures.store c.climb.ensures.told c.climb.ensures.kept

pub returns-clause-totals : goal.returns-clause-totals
returns-clause-totals c f tree all stands was =
    same_totals (store_of c.args.counted.now) (store_of c.set_same.new.self) (store_of c.climb.new.counted) f tree all
    c.args.id c.args.number c.args.is_same c.args.was _ _ stands c.set_same.ensures.store was c.count_of.ensures c.count_of-2.ensures c.climb.ensures.climbs

pub returns-clause-reads : goal.returns-clause-reads
returns-clause-reads c f tree stands =
    told_reads (Below c.args.id) (with_same c.args.number c.args.is_same) (store_of c.args.counted.now) (store_of c.set_same.new.self) (store_of c.climb.new.counted)
    c.set_same.ensures.store f tree stands c.climb.ensures.reads

pub returns-clause-beside : goal.returns-clause-beside
returns-clause-beside c f x tree stands none =
    told_beside (Below c.args.id) (with_same c.args.number c.args.is_same) (store_of c.args.counted.now) (store_of c.set_same.new.self) (store_of c.climb.new.counted) _ _
    c.set_same.ensures.store f tree stands c.climb.ensures.climbs x none
