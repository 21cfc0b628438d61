use Rattle.std.proofs.Common.{◌≡◌, Some, None, length, refl, sym, ap, ap₂, ◌∙◌}
use Rattle.std.specs.Prelude.{option_map, slice_get}
use Rattle.std.proofs.lemmas.Option.{slice_get_read, slice_get_past}
use Rattle.yschema_model.specs.Layout.{node_view}
use Rattle.yschema_model.proofs.QueryLemmas.{label_at, laid_out_fits}
use Rattle.yschema_model.proofs.schema.Schema.kind.Goals as goal

pub returns-in-Some : goal.returns-in-Some
returns-in-Some c =
    let slots = c.args.self.now.slots.items in
    let found = c.in-Some.ensures.lookup in
    let there : slice_get slots c.args.id.0 ≡ Some c.in-Some.row.now = ap₂ slice_get (sym c.deref.ensures.value) (sym c.number.ensures.value)
    ∙ slice_get_read c.deref.result.now (length c.deref.result.now) c.number.result c.in-Some.row.now refl found.3.0 found.1 in
    sym (label_at slots c.args.id.0 (laid_out_fits slots c.args.self.now.laid_out) ∙ ap (option_map (λ r. node_view c.args.id.0 r.node)) there)

pub returns-in-None : goal.returns-in-None
returns-in-None c =
    let slots = c.args.self.now.slots.items in
    let there : slice_get slots c.args.id.0 ≡ None = ap₂ slice_get (sym c.deref.ensures.value) (sym c.number.ensures.value)
    ∙ slice_get_past c.deref.result.now c.number.result c.in-None.ensures.lookup.3 in
    sym (label_at slots c.args.id.0 (laid_out_fits slots c.args.self.now.laid_out) ∙ ap (option_map (λ r. node_view c.args.id.0 r.node)) there)
