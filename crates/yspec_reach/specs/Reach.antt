-- What an edit of a live document may read: a bound by the edit's parts, by what they share with the nodes outside them, and
-- by the schema, and not by the size of the document.
use Rattle.std.specs.Prelude.{ℕ, ◌+◌, ◌*◌}
use Rattle.std.specs.Option.{option_map_or}
use Rattle.std.specs.Result.{result_ok}
use Rattle.yspec.specs.schema.Schema.{Schema}
use Rattle.yspec.specs.document.Document.{Tree}
use Rattle.yspec.specs.edit.EditText.{Edit}
use Rattle.yspec_reach.specs.Parts.{Exchange, exchange_of}
use Rattle.yspec_reach.specs.Sizes.{breadth, levels, part_size}
use Rattle.yspec_reach.specs.Shared.{shared}

-- how much an edit changes
abbrev pub change_size : Schema → Tree → Exchange → ℕ
change_size schema tree x = part_size schema x.old + (part_size schema x.new + shared schema x tree)

-- a refused edit has no parts, and shares nothing
unfoldable pub reach : Schema → Tree → Edit → ℕ
reach schema tree edit = 16 * (levels schema + 2)
    * (option_map_or (change_size schema tree) (result_ok (exchange_of schema tree edit)) 0 + breadth schema + 1)
