-- Rows of stored nodes as the specification's.
use Rattle.std.specs.Prelude.{List, [], ◌∷◌, map, option_map}
use Rattle.yspec.specs.Forest.{end, node}
use Rattle.yspec.specs.document.Document as spec
use Rattle.yspec.specs.document.Document.{Tree}
use Rattle.ytype.specs.View.{raw_of}
use Rattle.yinst_tree.specs.declared.tree.Stored.{Stored, fold-Stored}
use Rattle.yinst_tree.specs.declared.tree.Stored.TheOpen.{Stored-F}

abbrev pub Labelled : Type 0
Labelled = spec.Stored × Tree

-- the row of some nodes
abbrev pub row_of : List Labelled → Tree
row_of [] = end
row_of (s ∷ ss) = node s.0 s.1 (row_of ss)

-- one level, with what stands below already seen
abbrev pub view_step : Stored-F Labelled → Labelled
view_step s = (record { schema_number = s.id.0; value = option_map raw_of s.value }, row_of s.below.items)

abbrev pub view : Stored → Labelled
view = fold-Stored Labelled view_step

abbrev pub row_view : List Stored → Tree
row_view ss = row_of (map view ss)
