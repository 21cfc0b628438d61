-- What an answer unfolds to compute what an edit may read.
use Rattle.std.specs.Prelude.{⊤}
use Rattle.yspec.proofs.LiteralLemmas.{yspec_on_literals}
use Rattle.yspec_reach.specs.Parts.{exchange_of}
use Rattle.yspec_reach.specs.Reach.{reach}

unfoldable pub yreach_on_literals : ⊤
unfolding yspec_on_literals exchange_of reach
yreach_on_literals = tt
