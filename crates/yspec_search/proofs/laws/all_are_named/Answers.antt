use Rattle.yspec_search.specs.Search.{import_limit}
use Rattle.yspec_search.proofs.SearchLemmas.{where_all_are_known}
use Rattle.yspec_search.proofs.laws.all_are_named.Goals as goal

pub returns : goal.returns
returns c = λ language folders texts answers known. where_all_are_known language folders import_limit _ _ answers known
