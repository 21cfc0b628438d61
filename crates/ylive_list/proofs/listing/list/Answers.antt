use Rattle.ycheck.specs.View.{views}
use Rattle.ylive_list.proofs.TellingLemmas.{found_are_faults}
use Rattle.ylive_list.proofs.listing.list.Goals as goal

pub returns-clause-faults : goal.returns-clause-faults
returns-clause-faults c f hangs within tells fits =
    found_are_faults c.args.schema.now c.list_all.result (λ v. views v.items) _ f hangs within tells fits c.list_all.ensures
