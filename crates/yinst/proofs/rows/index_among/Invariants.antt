use Rattle.std.proofs.Common.{◌≡◌, ◌+◌, drop}
use Rattle.yinst.specs.Rows.{index_among}
use Rattle.yinst.proofs.rows.index_among.Given as goal

abbrev pub invariant-loop-stored : goal.invariant-loop-stored
invariant-loop-stored l = record {
  at : l.at ≡ l.stored-index;
  found : l.at + index_among l.id.0 l.left (drop l.stored-index l.row) ≡ index_among l.id.0 l.fn.count l.row;
}
