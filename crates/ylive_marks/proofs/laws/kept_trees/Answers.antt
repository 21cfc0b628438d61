use Rattle.ylive_marks.proofs.ClimbLemmas.{only_on}
use Rattle.ylive_marks.proofs.LawLemmas.{tree_kept, faults_shapes}
use Rattle.ylive_marks.proofs.TotalLemmas.{tree_same}
use Rattle.ylive_marks.proofs.laws.kept_trees.Goals as goal

pub returns : goal.returns
returns c =
    record { kept = tree_kept; shapes = λ before after f same tree. tree_same before after same f tree; faults = faults_shapes; joined = only_on }
