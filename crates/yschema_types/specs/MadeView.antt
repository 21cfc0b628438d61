-- What is made of the types of nodes, as the specification's.
use Rattle.std.specs.Prelude.{List, map}
use Rattle.yschema_model.specs.Layout.{targets_view}
use Rattle.yschema_types.specs.MadeTypes as spec
use Rattle.yschema_types.specs.declared.making.Made.{Made}
use Rattle.yschema_types.specs.declared.making.Made.TheVariants as made

abbrev pub made_view : Made → spec.Made
made_view made.Nothing = spec.nothing
made_view made.TooWide = spec.too_wide
made_view (made.Typed value_type targets) = spec.typed value_type (targets_view targets.items)

abbrev pub rows_view : List Made → List spec.Made
rows_view = map made_view
