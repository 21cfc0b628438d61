use Rattle.std.proofs.Common.{refl}
use Rattle.yspec.proofs.LiteralLemmas.{yspec_on_literals}
use Rattle.yspec.proofs.TextProofs.SpellingLemmas.{module_found}
use Rattle.yspec.proofs.spelling.spelled_texts.Goals as goal

pub returns : goal.returns
unfolding yspec_on_literals
returns c = record { stripped_and_joined = module_found _ _ refl; nothing_between = module_found _ _ refl; plus_alone = module_found _ _ refl; comments = module_found _ _ refl }
