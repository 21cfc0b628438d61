use Rattle.ystore_tree.proofs.HangingLemmas.{at_end}
use Rattle.ystore_tree.proofs.FoundLemmas.{found_at, counted_at, around_more, end_more, goes_more}
use Rattle.ystore_tree.proofs.laws.found_children.Goals as goal

pub returns : goal.returns
returns c = record { found = found_at; count = counted_at; row = at_end; further = around_more; ends = end_more; steps = goes_more }
