use Rattle.yspec.proofs.EditProofs.FittingEditLemmas.{edits_whole}
use Rattle.yspec.proofs.editing.edited_documents_are_whole.Goals as goal

pub returns : goal.returns
returns c = edits_whole
