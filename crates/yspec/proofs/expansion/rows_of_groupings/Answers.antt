use Rattle.yspec.proofs.LinkingProofs.GroupingLemmas.{row_of_grouping}
use Rattle.yspec.proofs.expansion.rows_of_groupings.Goals as goal

pub returns : goal.returns
returns c = row_of_grouping
