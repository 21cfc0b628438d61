use Rattle.std.proofs.Common.{nat_lt, ap}
use Rattle.ysay_edit.proofs.RowLemmas.{length_row}
use Rattle.ysay_edit.proofs.now.is_long.Goals as goal

pub returns : goal.returns
returns c = ap (nat_lt 256) (length_row c.args.row.now)
