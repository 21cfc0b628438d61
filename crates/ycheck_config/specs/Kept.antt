-- What is kept of the first node of a row.
use Rattle.std.specs.Prelude.{if◌then◌else◌}
use Rattle.yspec.specs.Forest.{node}
use Rattle.yspec.specs.schema.Schema.{Schema}
use Rattle.yspec.specs.document.Document.{Stored, Tree}
use Rattle.yspec.specs.document.StateData.{configuration_tree, is_state}

-- that node with what is kept below it, unless it is state, and the rest
abbrev pub kept_first : Schema → Stored × Tree → Tree → Tree
kept_first schema s rest = if is_state schema s.0.schema_number then rest else node s.0 (configuration_tree schema s.1) rest
