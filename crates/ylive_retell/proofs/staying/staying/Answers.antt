use Rattle.std.proofs.Common.{sym, ◌∙◌, arith}
use Rattle.ylive_retell.proofs.StayingLemmas.{staying_more}
use Rattle.ylive_retell.proofs.staying.staying.Goals as goal

pub loop-place-preserved : goal.loop-place-preserved
loop-place-preserved c =
    let one = c.in-Some.ensures.lookup in
    let other = c.in-Some-get.ensures.lookup in
    record {
      new = let within = other.3.0 in omega (arith, within);
      same = staying_more c.args.old.now c.args.new.now c.loop-place.place c.in-Some.one.now c.in-Some-get.other.now one.3.0 one.1 other.3.0 other.1
          (sym c.is_same.ensures ∙ c.if-not-is_same.false) c.loop-place.invariant.same;
    }
