use Rattle.std.proofs.Common.{refl}
use Rattle.ystore_tree.proofs.worked.worked_trees.Goals as goal

pub returns : goal.returns
returns c = record { document = refl; numbers = refl; there = refl; nowhere = refl; added = refl; first = refl; moved = refl; laid = refl; way = refl; row = refl }
