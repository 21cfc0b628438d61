-- What a store ends as, where a record or an entry of it is lent.
use Rattle.std.specs.Prelude.{Option}
use Rattle.std.specs.Borrow.{LendsIf, MutBor, Fml}
use Rattle.slab.specs.Slab.{Slab, with_value}
use Rattle.ystore_rows.specs.declared.row.Row.{Row}
use Rattle.ystore_rows.specs.declared.row.Row.TheVariants.{Top, Below}
use Rattle.ystore.specs.declared.record.Record.{Record}
use Rattle.ystore.specs.declared.nodes.Nodes.{Nodes}
use Rattle.ystore.specs.contracts.record.Record as record_row
use Rattle.ystore.specs.contracts.nodes.Nodes.{the_row}

abbrev pub top_with : Row → Record → Record → Record
top_with Top r top = r
top_with (Below id) r top = top

abbrev pub records_with : Row → Record → Slab Record → Slab Record
records_with Top r records = records
records_with (Below id) r records = with_value records id.0 r

abbrev pub with_record : Nodes → Row → Record → Nodes
with_record nodes row r = record nodes { top = top_with row r nodes.top; records = records_with row r nodes.records }

abbrev pub LendsRecord : MutBor Nodes → Row → Option (MutBor Record) → Fml
LendsRecord nodes row r = LendsIf the_row record_row.the_row nodes r (with_record nodes.now row) nodes.now
