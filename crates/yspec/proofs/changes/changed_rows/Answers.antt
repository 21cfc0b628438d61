use Rattle.yspec.proofs.ChangeLemmas.{row_changed, nowhere_changed, row_kept}
use Rattle.yspec.proofs.changes.changed_rows.Goals as goal

pub returns : goal.returns
returns c c' = record { changed = row_changed; nowhere = nowhere_changed; above = row_kept }
