use Rattle.ylive_marks.proofs.LawLemmas.{added, put, taken, moved_totals}
use Rattle.ylive_marks.proofs.laws.changed_totals.Goals as goal

pub returns : goal.returns
returns c =
    record {
      added = added;
      put = put;
      taken = taken;
      moved = moved_totals;
    }
