use Rattle.std.proofs.Common.{subst}
use Rattle.std.proofs.lemmas.Result.{on_ok_weaker}
use Rattle.ystore.specs.Views.{store_of}
use Rattle.ylive_retell.specs.Growing.{AreThere}
use Rattle.ylive_retell.proofs.GrowingLemmas.{there_kept}
use Rattle.ylive_retell.proofs.growing.grow.Goals as goal

pub returns-clause-there : goal.returns-clause-there
returns-clause-there c =
    let now = store_of c.await_values.new.counted in
    on_ok_weaker c.await_nodes.result
    (λ _. there_kept now (store_of c.await_nodes.new.counted) c.args.plan.now.comes.items c.await_nodes.ensures.grows.there
    (subst (AreThere now) c.deref.ensures.value c.in_ok-await_values.ensures.there))
    c.await_nodes.ensures.awaited
