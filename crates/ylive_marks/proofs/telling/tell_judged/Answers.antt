use Rattle.std.proofs.Common.{◌∙◌, ap}
use Rattle.ystore.specs.Held.{with_judged}
use Rattle.ystore.specs.Views.{store_of}
use Rattle.ystore_rows.specs.declared.row.Row.TheVariants.{Below}
use Rattle.ylive_marks.proofs.TotalLemmas.{mark}
use Rattle.ylive_marks.proofs.TellLemmas.{told_reads, told_so, judged_totals, told_beside}
use Rattle.ylive_marks.proofs.telling.tell_judged.Goals as goal

pub returns-clause-told : goal.returns-clause-told
returns-clause-told c =
    told_so (Below c.args.id) (with_judged c.args.judged) (store_of c.args.counted.now) (store_of c.set_judged.new.self) (store_of c.climb.new.counted)
    c.set_judged.ensures.store c.climb.ensures.told c.climb.ensures.kept

pub returns-clause-totals : goal.returns-clause-totals
returns-clause-totals c f tree all stands was =
    judged_totals (store_of c.args.counted.now) (store_of c.set_judged.new.self) (store_of c.climb.new.counted) f tree all
    c.args.id c.args.judged c.args.was _ _ stands c.set_judged.ensures.store was
    (c.count_of-more.ensures ∙ ap mark c.is_fault.ensures) c.count_of.ensures c.climb.ensures.climbs

pub returns-clause-reads : goal.returns-clause-reads
returns-clause-reads c f tree stands =
    told_reads (Below c.args.id) (with_judged c.args.judged) (store_of c.args.counted.now) (store_of c.set_judged.new.self) (store_of c.climb.new.counted)
    c.set_judged.ensures.store f tree stands c.climb.ensures.reads

pub returns-clause-beside : goal.returns-clause-beside
returns-clause-beside c f x tree stands none =
    told_beside (Below c.args.id) (with_judged c.args.judged) (store_of c.args.counted.now) (store_of c.set_judged.new.self) (store_of c.climb.new.counted) _ _
    c.set_judged.ensures.store f tree stands c.climb.ensures.climbs x none
