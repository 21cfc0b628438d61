use Rattle.yspec_search.specs.Search.{import_limit}
use Rattle.yspec_search.proofs.SearchLemmas.{without_a_folder}
use Rattle.yspec_search.proofs.laws.without_folders.Goals as goal

pub returns : goal.returns
returns c = λ language texts answers. without_a_folder language import_limit _ _ answers
