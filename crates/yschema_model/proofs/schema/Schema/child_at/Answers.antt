use Rattle.std.proofs.Common.{◌≡◌, Some, None, length, refl, sym, ap, ap₂, ◌∙◌, cond}
use Rattle.std.specs.Prelude.{slice_get, option_map}
use Rattle.std.proofs.lemmas.Option.{slice_get_read, slice_get_past}
use Rattle.yschema_model.specs.Layout.{number_of}
use Rattle.yschema_model.specs.View.{child_view}
use Rattle.yschema_model.proofs.RowChildLemmas.{below_it, child_of, no_child_of}
use Rattle.yschema_model.proofs.schema.Schema.child_at.Goals as goal

pub returns-in_err-slot : goal.returns-in_err-slot
returns-in_err-slot c =
    let schema = c.args.self.now in
    let slots = schema.slots.items in
    let there : slice_get slots c.args.id.0 ≡ None = ap₂ slice_get (sym c.deref.ensures.value) (sym c.number.ensures.value)
    ∙ slice_get_past c.deref.result.now c.number.result c.in_err-slot.ensures.lookup.3 in
    ap (option_map child_view) c.from_residual.ensures
    ∙ no_child_of schema.modules.items slots (number_of c.args.parent) c.args.id.0 schema.laid_out (ap (below_it (number_of c.args.parent) c.args.id.0) there)

pub returns-then-not-is_same : goal.returns-then-not-is_same
returns-then-not-is_same c =
    let schema = c.args.self.now in
    let slots = schema.slots.items in
    let found = c.in_ok-slot.ensures.lookup in
    let there : slice_get slots c.args.id.0 ≡ Some c.in_ok-slot.slot.now = ap₂ slice_get (sym c.deref.ensures.value) (sym c.number.ensures.value)
    ∙ slice_get_read c.deref.result.now (length c.deref.result.now) c.number.result c.in_ok-slot.slot.now refl found.3.0 found.1 in
    no_child_of schema.modules.items slots (number_of c.args.parent) c.args.id.0 schema.laid_out
    (ap (below_it (number_of c.args.parent) c.args.id.0) there
    ∙ ap (λ b. cond b (Some c.args.id.0) None) (sym c.is_same.ensures ∙ c.if-not-is_same.true))

pub returns : goal.returns
returns c =
    let schema = c.args.self.now in
    let slots = schema.slots.items in
    let found = c.in_ok-slot.ensures.lookup in
    let there : slice_get slots c.args.id.0 ≡ Some c.in_ok-slot.slot.now = ap₂ slice_get (sym c.deref.ensures.value) (sym c.number.ensures.value)
    ∙ slice_get_read c.deref.result.now (length c.deref.result.now) c.number.result c.in_ok-slot.slot.now refl found.3.0 found.1 in
    child_of schema.modules.items slots (number_of c.args.parent) c.args.id.0 c.in_ok-slot.slot.now _ _ schema.laid_out there
    (sym c.is_same.ensures ∙ c.if-not-is_same.false) c.new.ensures.label (c.new.ensures.below ∙ c.children.ensures)
