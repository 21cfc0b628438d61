use Rattle.yspec.proofs.EditProofs.LimitLemmas.{edits_within}
use Rattle.yspec.proofs.editing.edited_documents_are_within.Goals as goal

pub returns : goal.returns
returns c = edits_within
