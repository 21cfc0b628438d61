-- How many nodes stand in a row.
use Rattle.std.proofs.Common.{◌≡◌, suc, List, [], ◌∷◌, length, refl, ap}
use Rattle.yinst_tree.specs.View.{row_view}
use Rattle.yinst_tree.specs.declared.tree.Stored as tree
use Rattle.ysay_edit.specs.Now.{siblings}

pub length_row : (row : List tree.Stored) → length row ≡ siblings (row_view row)
length_row [] = refl
length_row (x ∷ xs) = ap suc (length_row xs)
