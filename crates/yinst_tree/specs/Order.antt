-- Rows in the order of their schema numbers, as a test.
use Rattle.std.specs.Prelude.{ℕ, ◌&&◌, Bool, true, leb}
use Rattle.yspec.specs.Forest.{end, node}
use Rattle.yspec.specs.document.Document.{Tree}

-- whether the numbers of a row ascend from a number on, and those of all rows below it
abbrev pub ascends_from : ℕ → Tree → Bool
ascends_from least end = true
ascends_from least (node s below after) = leb least s.schema_number && (ascends_from 0 below && ascends_from s.schema_number after)

abbrev pub is_in_order : Tree → Bool
is_in_order t = ascends_from 0 t
