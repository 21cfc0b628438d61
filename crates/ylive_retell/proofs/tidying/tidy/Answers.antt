use Rattle.ystore.specs.Views.{store_of}
use Rattle.ylive_retell.proofs.TidyLemmas.{tidies_one}
use Rattle.ylive_retell.proofs.tidying.tidy.Goals as goal

pub returns-clause-tidies : goal.returns-clause-tidies
returns-clause-tidies c =
    tidies_one c.keys_alike.ensures c.args.key.now (store_of c.args.counted.now) (store_of c.tidy.new.self)
    (c.same_entries.ensures.tidied c.args.key.now (store_of c.args.counted.now) (store_of c.tidy.new.self) c.tidy.ensures.store) c.tidy.ensures.store
