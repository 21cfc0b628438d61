use Rattle.std.proofs.Common.{refl}
use Rattle.yspec_search.proofs.SearchLiterals.{ysearch_on_literals}
use Rattle.yspec_search.proofs.examples.searches.Goals as goal

pub returns : goal.returns
unfolding ysearch_on_literals
returns c = record { none = refl; first_folder = refl; second_folder = refl; passed_over = refl; nowhere = refl; augmented_later = refl; named = refl; chain = refl; refused = refl; refused_at_once = refl; in_order = refl }
