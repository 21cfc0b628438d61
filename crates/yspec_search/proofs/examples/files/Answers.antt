use Rattle.std.proofs.Common.{refl}
use Rattle.yspec_search.proofs.SearchLiterals.{ysearch_on_literals}
use Rattle.yspec_search.proofs.examples.files.Goals as goal

pub returns : goal.returns
unfolding ysearch_on_literals
returns c = record { plain = refl; dated = refl; by_folder = refl }
