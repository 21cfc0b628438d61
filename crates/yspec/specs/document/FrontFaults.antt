-- The faults of a document whose rows stand in order, by one walk over a row of schema nodes and the row that is stored
-- under it, in which each schema node takes what is stored of it from the front. They are the faults of the document.
use Rattle.std.specs.Prelude.{ℕ, ◌+◌, ◌++◌, List, []}
use Rattle.yspec.specs.Forest.{Forest, end, node, size}
use Rattle.yspec.specs.schema.Schema.{Schema, SchemaNode}
use Rattle.yspec.specs.document.Document.{Tree, instances_in}
use Rattle.yspec.specs.document.Sorting.{from_number, each_front}
use Rattle.yspec.specs.document.Fault.{Fault}
use Rattle.yspec.specs.document.Play.{cases, stored_cases}
use Rattle.yspec.specs.document.Instances.{tuple}
use Rattle.yspec.specs.document.Faults.{Times, RowTimes, own_faults, row_times}
use Rattle.yspec.specs.document.RowFaults.{node_faults}

-- the faults of a row, where each schema node takes what is stored of it from the front and leaves the rest to the next
unfoldable pub front_faults : Times → Schema → RowTimes → List ℕ → Forest SchemaNode → Tree → List Fault
front_faults times schema row chosen end rest = []
front_faults times schema row chosen (node n below after) rest = node_faults chosen n n.kind (stored_cases (instances_in rest) below)
    (each_front n.number (λ s b. own_faults times row n n.kind s.value (tuple schema s b)
    ++ front_faults times schema (row_times schema b) [] below b) (from_number n.number rest))
    (front_faults times schema (row_times schema end) [] below end)
    (front_faults times schema row (cases (instances_in rest) n.kind below) below rest)
    ++ front_faults times schema row chosen after (from_number (n.number + 1 + size below) rest)
