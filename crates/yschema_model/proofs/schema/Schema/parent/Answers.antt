use Rattle.std.proofs.Common.{◌≡◌, Some, None, length, refl, sym, ap, ap₂, ◌∙◌}
use Rattle.std.specs.Prelude.{option_map, slice_get}
use Rattle.std.proofs.lemmas.Option.{slice_get_read, slice_get_past}
use Rattle.yschema_model.specs.Layout.{node_view}
use Rattle.yschema_model.proofs.QueryLemmas.{label_at, laid_out_fits}
use Rattle.yschema_model.proofs.WayLemmas.{way_of_row, no_way}
use Rattle.yschema_model.proofs.schema.Schema.parent.Goals as goal

pub returns-in-Some : goal.returns-in-Some
returns-in-Some c =
    let schema = c.args.self.now in
    let slots = schema.slots.items in
    let found = c.in-Some.ensures.lookup in
    let there : slice_get slots c.args.id.0 ≡ Some c.in-Some.row.now = ap₂ slice_get (sym c.deref.ensures.value) (sym c.number.ensures.value)
    ∙ slice_get_read c.deref.result.now (length c.deref.result.now) c.number.result c.in-Some.row.now refl found.3.0 found.1 in
    let is = way_of_row schema.modules.items slots c.args.id.0 c.in-Some.row.now schema.laid_out there in
    let stands = label_at slots c.args.id.0 (laid_out_fits slots schema.laid_out) ∙ ap (option_map (λ r. node_view c.args.id.0 r.node)) there in
    record {
      way = is.0;
      above = is.1;
      none = λ lost. let clash : Some (node_view c.args.id.0 c.in-Some.row.now.node) ≡ None = sym stands ∙ lost in absurd cc;
    }

pub returns-in-None : goal.returns-in-None
returns-in-None c =
    let schema = c.args.self.now in
    let slots = schema.slots.items in
    let there : slice_get slots c.args.id.0 ≡ None = ap₂ slice_get (sym c.deref.ensures.value) (sym c.number.ensures.value)
    ∙ slice_get_past c.deref.result.now c.number.result c.in-None.ensures.lookup.3 in
    let is = no_way schema.modules.items slots c.args.id.0 schema.laid_out there in
    record { way = is.0; above = is.1; none = λ _. refl }
