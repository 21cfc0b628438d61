-- Documents as the specification's.
use Rattle.std.specs.Prelude.{List, map, option_map, ◌≡◌, Some}
use Rattle.yspec.specs.document.Document as spec
use Rattle.yspec.specs.document.Document.{Tree}
use Rattle.yspec.specs.document.Reading as reading
use Rattle.yspec.specs.schema.Schema.{Schema, node_at, children_of}
use Rattle.yinst_tree.specs.declared.names.Named.{Named}
use Rattle.yinst_tree.specs.declared.names.Named.TheVariants as names
use Rattle.yinst_tree.specs.declared.tree.Step.{Step}
use Rattle.yinst_tree.specs.declared.document.Tree as tree
pub use Rattle.yinst_tree.specs.Rows.{Labelled, row_of, view_step, view, row_view}

abbrev pub tree_view : tree.Tree → Tree
tree_view t = row_view t.nodes.items

abbrev pub step_view : Step → spec.Step
step_view s = record { schema_number = s.id.0; position = s.position }

abbrev pub place_view : List Step → List spec.Step
place_view = map step_view

-- a name means what is read
abbrev pub Means : Schema → Named → reading.Named → Type 0
Means s (names.Child id) read = option_map (λ n. reading.child n (children_of s id.0)) (node_at s id.0) ≡ Some read
Means s names.OtherForm read = read ≡ reading.other_form
Means s names.Unknown read = read ≡ reading.unknown
