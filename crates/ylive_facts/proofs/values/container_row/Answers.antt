use Rattle.std.proofs.Common.{ap, refl, true, false}
use Rattle.yspec.specs.Forest.{end}
use Rattle.yspec.specs.document.Instances.{container_row}
use Rattle.yschema_model.specs.View as schema_view
use Rattle.ystore.specs.Views.{store_of}
use Rattle.ylive_facts.proofs.RowLemmas.{row_found, none_found, implied}
use Rattle.ylive_facts.proofs.values.container_row.Goals as goal

pub returns-in-Some-clause-row : goal.returns-in-Some-clause-row
returns-in-Some-clause-row c f hangs =
    let at = row_found (store_of c.args.counted.now) (store_of c.first_of.new.counted) f c.args.id c.first_of.ensures.kept c.args.row c.first_of.result c.in-Some.container hangs
    c.first_of.ensures.first c.in-Some.is in
    (at.0, at.1, ap (container_row (schema_view.view c.args.schema.now) c.args.id.0) at.2)

pub returns-then-is_implied-clause-row : goal.returns-then-is_implied-clause-row
returns-then-is_implied-clause-row c f hangs =
    let none = none_found (store_of c.args.counted.now) c.args.row f c.args.id c.first_of.result hangs c.first_of.ensures.first c.in-None.is in
    (end, refl, implied (schema_view.view c.args.schema.now) c.args.id.0 _ c.is_implied.result true none.1 c.if-is_implied.true c.is_implied.ensures)

pub returns-else-is_implied-clause-row : goal.returns-else-is_implied-clause-row
returns-else-is_implied-clause-row c f hangs =
    let none = none_found (store_of c.args.counted.now) c.args.row f c.args.id c.first_of.result hangs c.first_of.ensures.first c.in-None.is in
    implied (schema_view.view c.args.schema.now) c.args.id.0 _ c.is_implied.result false none.1 c.if-is_implied.false c.is_implied.ensures
