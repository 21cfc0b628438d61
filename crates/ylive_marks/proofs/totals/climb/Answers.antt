use Rattle.std.proofs.Common.{arith, ◌∙◌, sym}
use Rattle.ystore.specs.Views.{store_of}
use Rattle.ylive_marks.specs.Totals.{moved}
use Rattle.ylive_marks.proofs.ClimbLemmas.{begins, goes_up, at_top, all_done, here_top, so_long, total_told, total_only, only_on, read_only, read_told}
use Rattle.ylive_marks.proofs.totals.climb.Goals as goal

pub loop-round-init : goal.loop-round-init
loop-round-init c =
    let change = moved c.args.more c.args.less in
    let start = store_of c.args.counted.now in
    let now = store_of c.change_total.new.self in
    record {
      same_reference = c.change_total.ensures.same_reference;
      told = total_told c.args.row start now change c.change_total.ensures.store;
      kept = total_only c.args.row start now change c.change_total.ensures.store;
      reads = let same = c.change_total.ensures.store.reads in omega (arith, same);
      so_far = λ way f tree ends. begins way f c.args.row change start now tree ends c.change_total.ensures.store;
    }

pub returns-in_default-clause-climbs : goal.returns-in_default-clause-climbs
returns-in_default-clause-climbs c way f tree ends =
    at_top way f c.loop-round.here c.loop-round.round c.args.more c.args.less (store_of c.args.counted.now) (store_of c.loop-round.counted) (store_of c.row_above.new.counted)
    tree c.loop-round.invariant.kept c.row_above.ensures.kept c.loop-round.invariant.told (sym c.in_default.is ∙ c.row_above.ensures.above) (c.loop-round.invariant.so_far way f tree ends)

pub loop-round-preserved : goal.loop-round-preserved
loop-round-preserved c =
    let change = moved c.args.more c.args.less in
    let start = store_of c.args.counted.now in
    let now = store_of c.loop-round.counted in
    let mid = store_of c.row_above.new.counted in
    let next = store_of c.change_total-in-loop-round.new.self in
    let told = total_told c.in-Some.above mid next change c.change_total-in-loop-round.ensures.store in
    let only = total_only c.in-Some.above mid next change c.change_total-in-loop-round.ensures.store in
    record {
      same_reference = c.change_total-in-loop-round.ensures.same_reference ∙ (c.row_above.ensures.same_reference ∙ c.loop-round.invariant.same_reference);
      told = λ row. told row ∙ (read_told now mid c.row_above.ensures.kept row ∙ c.loop-round.invariant.told row);
      kept = only_on start mid next (only_on start now mid c.loop-round.invariant.kept (read_only now mid c.row_above.ensures.kept)) only;
      reads =
          let was = c.loop-round.invariant.reads in let one = c.row_above.ensures.reads in let same = c.change_total-in-loop-round.ensures.store.reads in
          omega (arith, was, one, same);
      so_far = λ way f tree ends. goes_up way f c.loop-round.here c.loop-round.round change start now mid tree c.loop-round.invariant.kept c.row_above.ensures.kept
          c.in-Some.above next (sym c.in-Some.is ∙ c.row_above.ensures.above) c.change_total-in-loop-round.ensures.store (c.loop-round.invariant.so_far way f tree ends);
    }

pub returns-clause-climbs : goal.returns-clause-climbs
returns-clause-climbs c way f tree ends =
    all_done way f c.loop-round.here c.loop-round.round c.args.more c.args.less (store_of c.args.counted.now) (store_of c.loop-round.counted) tree
    (let kept = (total_only c.args.row (store_of c.args.counted.now) (store_of c.change_total.new.self) (moved c.args.more c.args.less) c.change_total.ensures.store).node_count in
    let all = c.node_count-round-end.ensures in let past = c.loop-round-test.false in omega (arith, kept, all, past))
    c.loop-round.invariant.told (c.loop-round.invariant.so_far way f tree ends)

pub returns-in_default-clause-reads : goal.returns-in_default-clause-reads
returns-in_default-clause-reads c way f tree ends =
    let so = c.loop-round.invariant.so_far way f tree ends in
    let top = here_top way f c.loop-round.here c.loop-round.round (moved c.args.more c.args.less) (store_of c.args.counted.now) (store_of c.loop-round.counted) tree
    c.loop-round.invariant.kept (sym c.in_default.is ∙ c.row_above.ensures.above) so in
    let same = c.row_above.ensures.top top in
    let long = so_long way c.loop-round.here c.loop-round.round (moved c.args.more c.args.less) (store_of c.args.counted.now) (store_of c.loop-round.counted) so in
    let was = c.loop-round.invariant.reads in
    omega (arith, same, long, was)

pub returns-clause-reads : goal.returns-clause-reads
returns-clause-reads c way f tree ends =
    let so = c.loop-round.invariant.so_far way f tree ends in
    let long = so_long way c.loop-round.here c.loop-round.round (moved c.args.more c.args.less) (store_of c.args.counted.now) (store_of c.loop-round.counted) so in
    let was = c.loop-round.invariant.reads in
    omega (arith, long, was)
