use Rattle.std.proofs.Common.{◌∙◌, ◌+◌, [], drop, refl}
use Rattle.std.proofs.lemmas.List.{drop_all}
use Rattle.ystore.specs.Views.{store_of}
use Rattle.ylive_retell.proofs.JoiningLemmas.{drop_more}
use Rattle.ylive_retell.proofs.TidyLemmas.{tidies_nothing, tidies_on, tidy_more, tidy_whole}
use Rattle.ylive_retell.proofs.tidying.tidy_all.Goals as goal

pub loop-at-init : goal.loop-at-init
loop-at-init c = (refl, refl, tidies_nothing (store_of c.args.counted.now), record { done = []; all = refl; tidy = tt })

pub loop-at-preserved : goal.loop-at-preserved
loop-at-preserved c = (
  c.tidy.ensures.same_reference ∙ c.loop-at.invariant.0,
  c.tidy.ensures.reads ∙ c.loop-at.invariant.1,
  tidies_on (store_of c.args.counted.now) (store_of c.loop-at.counted) (store_of c.tidy.new.counted) c.loop-at.invariant.2 c.tidy.ensures.tidies,
  tidy_more c.keys_alike.ensures c.index-keys-at.result (drop c.loop-at.at c.args.keys.now) (drop (c.loop-at.at + 1) c.args.keys.now) c.args.keys.now
      (store_of c.loop-at.counted) (store_of c.tidy.new.counted) (drop_more c.args.keys.now c.loop-at.at c.index-keys-at.result c.loop-at-test.true c.index-keys-at.is)
      c.tidy.ensures.entry c.loop-at.invariant.3,
)

pub returns-clause-entries : goal.returns-clause-entries
returns-clause-entries c =
    tidy_whole (store_of c.loop-at.counted) (drop c.loop-at.at c.args.keys.now) c.args.keys.now (drop_all c.loop-at.at c.args.keys.now c.loop-at-test.false) c.loop-at.invariant.3
