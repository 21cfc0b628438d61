use Rattle.std.proofs.Common.{◌∙◌}
use Rattle.ycheck.proofs.SortedLemmas.{searched_is_there}
use Rattle.ycheck.proofs.repeated.is_among.Goals as goal

pub returns : goal.returns
returns g c = c.is_ok.ensures.value ∙ searched_is_there g.met.K.Ord.total (λ k. k.now) c.args.sorted.now c.requires c.args.key.now c.binary_search.result c.binary_search.ensures.bound c.binary_search.ensures.position
