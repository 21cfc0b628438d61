use Rattle.std.proofs.Common.{refl}
use Rattle.yspec_search.proofs.SearchLiterals.{ysearch_on_literals}
use Rattle.yspec_search.proofs.examples.wants.Goals as goal

pub returns : goal.returns
unfolding ysearch_on_literals
returns c = record { none = refl; two = refl; inside_another = refl; augmented_modules = refl; no_name = refl }
