use Rattle.ystore_tree.proofs.HangingLemmas.{kept}
use Rattle.ystore_tree.proofs.FrameLemmas.{keeps_same, holds_same}
use Rattle.ystore_tree.proofs.laws.kept_forests.Goals as goal

pub returns : goal.returns
returns c =
    record {
      forests = kept;
      trees = λ before after tree above loose same keeps. keeps_same before after same tree above loose keeps;
      documents = λ before after tree same holds. holds_same before after same tree holds;
    }
