use Rattle.yspec.proofs.EditProofs.FittingEditLemmas.{edits_fit}
use Rattle.yspec.proofs.editing.edited_documents_fit.Goals as goal

pub returns : goal.returns
returns c = edits_fit
