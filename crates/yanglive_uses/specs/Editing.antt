-- How many edits of a list are accepted.
use Rattle.std.specs.Prelude.{ℕ, List, filter, is_none, length}
use Rattle.yspec.specs.edit.EditText.{Edit}
use Rattle.yspec.specs.edit.Editing.{decisions}
use Rattle.yspec.specs.edit.Live.{Live}

abbrev pub accepted_count : Live → List Edit → ℕ
accepted_count live edits = length (filter is_none (decisions live.schema live.tree edits))
