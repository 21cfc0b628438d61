-- A node of a row as an instance of a schema node.
use Rattle.std.specs.Prelude.{ℕ, ◌==◌, Option, Some, None, if◌then◌else◌}
use Rattle.yinst_tree.specs.View.{Labelled, view}
use Rattle.yinst_tree.specs.declared.tree.Stored.{Stored}

abbrev pub instance_of : ℕ → Stored → Option Labelled
instance_of number s = if (view s).0.schema_number == number then Some (view s) else None
