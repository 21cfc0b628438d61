-- Schemas as the specification's.
use Rattle.std.specs.Prelude.{◌≡◌, Option, Some, None}
use Rattle.yspec.specs.Forest.{Forest, end, node}
use Rattle.yspec.specs.schema.Schema as spec
pub use Rattle.yschema_model.specs.Layout.{kind_view, status_view, node_view, forest_of, augment_view, module_view, schema_view}
unfoldable pub use Rattle.yschema_model.specs.Layout.{forest_within}
use Rattle.yschema_model.specs.declared.children.Children.{Children}
use Rattle.yschema_model.specs.declared.children.Child.{Child}
use Rattle.yschema_model.specs.declared.schema.Schema.{Schema}

-- what is left of a row
abbrev pub row_view : Children → Forest spec.SchemaNode
row_view c = forest_of c.number c.slots.now

-- a node of a row, and what stands below it
abbrev pub label_of : Child → spec.SchemaNode
label_of c = node_view c.id.0 c.node.now

abbrev pub below_of : Child → Forest spec.SchemaNode
below_of c = row_view c.children

abbrev pub child_view : Child → spec.SchemaNode × Forest spec.SchemaNode
child_view c = (label_of c, below_of c)

abbrev pub view : Schema → spec.Schema
view s = schema_view s.modules.items s.slots.items

-- A step over a row: it gives the first node, with what stands below it, and leaves the others.
abbrev pub TakesFirst : Children → Option Child → Children → Type 0
TakesFirst before None after = (row_view before ≡ end) × (row_view after ≡ end)
TakesFirst before (Some c) after = row_view before ≡ node (label_of c) (below_of c) (row_view after)
