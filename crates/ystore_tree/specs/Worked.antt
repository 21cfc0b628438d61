-- A container with a leaf and two items of a leaf-list, as a worked example.
use Rattle.std.specs.Prelude.{ℕ, Option, Some, None, codes}
use Rattle.yspec.specs.Forest.{end, node}
use Rattle.yspec.specs.types.Types.{Raw, text, empty}
use Rattle.ystore_rows.specs.declared.row.Row.{Row}
use Rattle.ystore_rows.specs.declared.row.Row.TheVariants.{Below}
use Rattle.ystore_tree.specs.Hanging.{Numbered, Branches}

abbrev pub stored_as : ℕ → ℕ → Option Raw → Numbered
stored_as id schema value =
    record { id = record { 0 = id }; schema = record { 0 = schema }; value = value }

abbrev pub container : Numbered
container = stored_as 7 1 None

abbrev pub leaf : Numbered
leaf = stored_as 3 2 (Some empty)

abbrev pub item : Numbered
item = stored_as 5 3 (Some (text (codes "a")))

abbrev pub other : Numbered
other = stored_as 4 3 (Some (text (codes "b")))

abbrev pub rows_below : Branches
rows_below = node leaf end (node item end (node other end end))

abbrev pub tree : Branches
tree = node container rows_below end

-- the row below the container
abbrev pub inner : Row
inner = Below container.id
