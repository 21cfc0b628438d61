use Rattle.yspec.proofs.EditProofs.SortedEditLemmas.{edits_in_order}
use Rattle.yspec.proofs.editing.edited_rows_stay_in_order.Goals as goal

pub returns : goal.returns
returns c = edits_in_order
