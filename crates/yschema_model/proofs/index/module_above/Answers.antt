use Rattle.std.proofs.Common.{◌≡◌, Some, None, [], length, refl, sym, ap, ◌∙◌}
use Rattle.std.specs.Prelude.{option_map, slice_get}
use Rattle.std.proofs.lemmas.Option.{slice_get_read, slice_get_past}
use Rattle.yspec.specs.schema.Schema.{module_at}
use Rattle.yschema_model.specs.Layout.{schema_view}
use Rattle.yschema_model.proofs.QueryLemmas.{module_of_row}
use Rattle.yschema_model.proofs.index.module_above.Goals as goal

pub returns-in-Some : goal.returns-in-Some
returns-in-Some c =
    let slots = c.args.slots.now in
    let found = c.in-Some.ensures.lookup in
    let there : slice_get slots c.in_ok-above.field-0 ≡ Some c.in-Some.slot.now = slice_get_read slots (length slots) c.in_ok-above.field-0 c.in-Some.slot.now refl found.3.0 found.1 in
    sym (ap (module_at (schema_view [] slots)) c.in_ok-above.was
    ∙ (module_of_row [] slots c.in_ok-above.field-0 c.requires ∙ ap (option_map (λ r. r.node.«module»)) there))

pub returns-in-None : goal.returns-in-None
returns-in-None c =
    let slots = c.args.slots.now in
    let there : slice_get slots c.in_ok-above.field-0 ≡ None = slice_get_past slots c.in_ok-above.field-0 c.in-None.ensures.lookup.3 in
    sym (ap (module_at (schema_view [] slots)) c.in_ok-above.was
    ∙ (module_of_row [] slots c.in_ok-above.field-0 c.requires ∙ ap (option_map (λ r. r.node.«module»)) there))
