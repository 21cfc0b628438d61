use Rattle.std.proofs.Common.{refl}
use Rattle.yspec_search.proofs.SearchLiterals.{ysearch_on_literals}
use Rattle.yspec_search.proofs.examples.meets.Goals as goal

pub returns : goal.returns
unfolding ysearch_on_literals
returns c = record { by_name = refl; data_nodes = refl; augmented_data = refl; identities = refl; revisions = refl; refused_text = refl }
