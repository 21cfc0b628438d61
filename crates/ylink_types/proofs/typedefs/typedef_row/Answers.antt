use Rattle.std.proofs.Common.{◌≡◌, Some, None, length, option_map, refl, sym, ap, ◌∙◌}
use Rattle.std.specs.Prelude.{slice_get}
use Rattle.std.proofs.lemmas.Option.{slice_get_read, slice_get_past}
use Rattle.ybase_preorder.specs.View.{row_by, slots_in}
use Rattle.ylink_grammar.specs.SourceView.{source_view}
use Rattle.ylink_types.proofs.RowLemmas.{row_nowhere, row_of_other, row_of_typedef}
use Rattle.ylink_types.proofs.typedefs.typedef_row.Goals as goal

pub returns-in_err-slot : goal.returns-in_err-slot
returns-in_err-slot c =
    let rows = slots_in c.args.sources.now.table in
    let number = c.args.number in
    let nowhere : slice_get rows number ≡ None = ap (λ l. slice_get l number) (sym c.slots.ensures)
    ∙ slice_get_past c.slots.result.now number c.in_err-slot.ensures.lookup.3 in
    ap (option_map (row_by source_view)) c.from_residual.ensures ∙ row_nowhere rows number nowhere

pub returns-then-not-is : goal.returns-then-not-is
returns-then-not-is c =
    let rows = slots_in c.args.sources.now.table in
    let number = c.args.number in
    let found = c.in_ok-slot.ensures.lookup in
    let there : slice_get rows number ≡ Some c.in_ok-slot.slot.now = ap (λ l. slice_get l number) (sym c.slots.ensures)
    ∙ slice_get_read c.slots.result.now (length c.slots.result.now) number c.in_ok-slot.slot.now refl found.3.0 found.1 in
    row_of_other rows number c.in_ok-slot.slot.now there (sym c.is.ensures ∙ c.if-not-is.true)

pub returns : goal.returns
returns c =
    let rows = slots_in c.args.sources.now.table in
    let number = c.args.number in
    let found = c.in_ok-slot.ensures.lookup in
    let there : slice_get rows number ≡ Some c.in_ok-slot.slot.now = ap (λ l. slice_get l number) (sym c.slots.ensures)
    ∙ slice_get_read c.slots.result.now (length c.slots.result.now) number c.in_ok-slot.slot.now refl found.3.0 found.1 in
    row_of_typedef rows number c.in_ok-slot.slot.now there (row_by source_view c.below.result) c.args.sources.now.laid_out c.below.ensures.row
    (sym c.is.ensures ∙ c.if-not-is.false)
