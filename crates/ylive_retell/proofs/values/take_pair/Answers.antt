use Rattle.std.proofs.Common.{arith, refl}
use Rattle.ystore.specs.Views.{store_of}
use Rattle.ylive_retell.proofs.JoiningLemmas.{follows_of}
use Rattle.ylive_retell.proofs.TidyLemmas.{tidied_follows, tidy_itself}
use Rattle.ylive_retell.proofs.values.take_pair.Goals as goal

pub returns-clause-follows : goal.returns-clause-follows
returns-clause-follows c held f tree agrees totals some =
    tidied_follows held f (store_of c.args.counted.now) (store_of c.take_value.new.counted) (store_of c.tidy.new.counted)
    (follows_of _ held f (store_of c.args.counted.now) (store_of c.take_value.new.counted) (c.take_value.ensures.follows held f tree agrees totals refl refl some)) c.tidy.ensures.tidies

pub returns-clause-entry : goal.returns-clause-entry
returns-clause-entry c = tidy_itself _ (store_of c.take_value.new.counted) (store_of c.tidy.new.counted) c.tidy.ensures.entry

pub returns-clause-reads : goal.returns-clause-reads
returns-clause-reads c held f tree agrees totals some =
    let taken = (c.take_value.ensures.follows held f tree agrees totals refl refl some).reads in
    let same = c.tidy.ensures.reads in
    omega (arith, taken, same)
