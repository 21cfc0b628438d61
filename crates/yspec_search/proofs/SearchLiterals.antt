-- What an answer unfolds to compute a search.
use Rattle.std.specs.Prelude.{⊤}
use Rattle.yspec_wide.proofs.WideLiterals.{ywide_on_literals}
use Rattle.yspec_search.specs.Search.{search_on}

unfoldable pub ysearch_on_literals : ⊤
unfolding ywide_on_literals search_on
ysearch_on_literals = tt
