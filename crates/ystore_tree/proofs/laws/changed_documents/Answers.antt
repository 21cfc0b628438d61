use Rattle.ystore_tree.proofs.GrowLemmas.{tree_join}
use Rattle.ystore_tree.proofs.DocumentLemmas.{added, put, taken, moved, along}
use Rattle.ystore_tree.proofs.laws.changed_documents.Goals as goal

pub returns : goal.returns
returns c = record { added = added; joined = tree_join; put = put; taken = taken; moved = moved; along = along }
