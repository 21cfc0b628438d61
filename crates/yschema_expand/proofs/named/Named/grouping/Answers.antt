use Rattle.std.proofs.Common.{◌≡◌, ◌∙◌, None, Some, arith, ap, sym, refl, length, drop, take, ◌+◌, cond}
use Rattle.std.specs.Prelude.{slice_get}
use Rattle.std.proofs.lemmas.List.{length-take, length-drop}
use Rattle.std.proofs.lemmas.Option.{slice_get_read, slice_get_past}
use Rattle.yspec.specs.Forest.{size, end}
use Rattle.yspec.specs.linking.Expansion.{laid}
use Rattle.ybase_preorder.specs.Layout.{numbered_by, forest_of}
use Rattle.ybase_preorder.specs.View.{row_by, row_view, slots_in}
use Rattle.ybase_preorder.proofs.LabelLemmas.{size-by}
use Rattle.ybase_preorder.proofs.RowLemmas.{size_forest}
use Rattle.ylink_grammar.specs.SourceView.{source_view}
use Rattle.yschema_expand.specs.NamedView.{language_of, row_or_none}
use Rattle.yschema_given.specs.Keeping.{are_kept_right}
use Rattle.yschema_given.proofs.KeepingLemmas.{kept_below}
use Rattle.yschema_expand.proofs.GroupingLemmas.{laid_end, row_there, row_other, row_nowhere, stated_there, stated_other, stated_nowhere}
use Rattle.yschema_expand.proofs.named.Named.grouping.Goals as goal

pub returns-in_err-slot-clause-row : goal.returns-in_err-slot-clause-row
returns-in_err-slot-clause-row c =
    let rows = slots_in c.args.self.now.sources.now.table in
    let number = c.args.number in
    let nowhere : slice_get rows number ≡ None = ap (λ l. slice_get l number) (sym c.slots.ensures)
    ∙ slice_get_past c.slots.result.now number c.in_err-slot.ensures.lookup.3 in
    ap (λ r. laid (row_or_none r)) c.from_residual.ensures ∙ (laid_end ∙ row_nowhere rows number nowhere)

pub returns-then-is-clause-row : goal.returns-then-is-clause-row
returns-then-is-clause-row c =
    let rows = slots_in c.args.self.now.sources.now.table in
    let number = c.args.number in
    let found = c.in_ok-slot.ensures.lookup in
    let there : slice_get rows number ≡ Some c.in_ok-slot.slot.now = ap (λ l. slice_get l number) (sym c.slots.ensures)
    ∙ slice_get_read c.slots.result.now (length c.slots.result.now) number c.in_ok-slot.slot.now refl found.3.0 found.1 in
    let below = row_by source_view c.below.result in
    sym (ap (λ b. cond b (laid below) end) c.if-is.true)
    ∙ row_there rows number c.in_ok-slot.slot.now below c.is.result c.args.self.now.sources.now.laid_out there c.is.ensures c.below.ensures.row c.below.ensures.none

pub returns-then-is-clause-within : goal.returns-then-is-clause-within
returns-then-is-clause-within c =
    let rows = slots_in c.args.self.now.sources.now.table in
    let number = c.args.number in
    let slot = c.in_ok-slot.slot.now in
    let found = c.in_ok-slot.ensures.lookup in
    let there : slice_get rows number ≡ Some slot = ap (λ l. slice_get l number) (sym c.slots.ensures)
    ∙ slice_get_read c.slots.result.now (length c.slots.result.now) number slot refl found.3.0 found.1 in
    let inner = take slot.below (drop (number + 1) rows) in
    let own : size (row_view c.below.result) ≡ length inner =
    sym (size-by source_view c.below.result.number (row_view c.below.result))
    ∙ (ap size (c.below.ensures.row slot there) ∙ (size-by source_view (number + 1) (forest_of inner) ∙ size_forest inner)) in
    let all : size (numbered_by source_view 0 (forest_of rows)) ≡ length rows = size-by source_view 0 (forest_of rows) ∙ size_forest rows in
    let taken = length-take slot.below (drop (number + 1) rows) in
    let dropped = length-drop (number + 1) rows in
    omega (arith, own, all, taken, dropped)

pub returns-else-is-clause-row : goal.returns-else-is-clause-row
returns-else-is-clause-row c =
    let rows = slots_in c.args.self.now.sources.now.table in
    let number = c.args.number in
    let found = c.in_ok-slot.ensures.lookup in
    let there : slice_get rows number ≡ Some c.in_ok-slot.slot.now = ap (λ l. slice_get l number) (sym c.slots.ensures)
    ∙ slice_get_read c.slots.result.now (length c.slots.result.now) number c.in_ok-slot.slot.now refl found.3.0 found.1 in
    laid_end ∙ row_other rows number c.in_ok-slot.slot.now there (sym c.is.ensures ∙ c.if-is.false)

pub returns-then-is-clause-kept : goal.returns-then-is-clause-kept
returns-then-is-clause-kept c =
    let l = language_of c.args.self.now in
    let rows = slots_in c.args.self.now.sources.now.table in
    let number = c.args.number in
    let slot = c.in_ok-slot.slot.now in
    let found = c.in_ok-slot.ensures.lookup in
    let there : slice_get rows number ≡ Some slot = ap (λ l. slice_get l number) (sym c.slots.ensures)
    ∙ slice_get_read c.slots.result.now (length c.slots.result.now) number slot refl found.3.0 found.1 in
    ap (are_kept_right l) (c.below.ensures.row slot there)
    ∙ kept_below l rows slot.below (number + 1) (number + 1) c.args.self.now.kept

pub returns-in_err-slot-clause-stated : goal.returns-in_err-slot-clause-stated
returns-in_err-slot-clause-stated c =
    let rows = slots_in c.args.self.now.sources.now.table in
    let number = c.args.number in
    let nowhere : slice_get rows number ≡ None = ap (λ l. slice_get l number) (sym c.slots.ensures)
    ∙ slice_get_past c.slots.result.now number c.in_err-slot.ensures.lookup.3 in
    ap row_or_none c.from_residual.ensures ∙ stated_nowhere rows number nowhere

pub returns-then-is-clause-stated : goal.returns-then-is-clause-stated
returns-then-is-clause-stated c =
    let rows = slots_in c.args.self.now.sources.now.table in
    let number = c.args.number in
    let found = c.in_ok-slot.ensures.lookup in
    let there : slice_get rows number ≡ Some c.in_ok-slot.slot.now = ap (λ l. slice_get l number) (sym c.slots.ensures)
    ∙ slice_get_read c.slots.result.now (length c.slots.result.now) number c.in_ok-slot.slot.now refl found.3.0 found.1 in
    let below = row_by source_view c.below.result in
    sym (ap (λ b. cond b below end) c.if-is.true)
    ∙ stated_there rows number c.in_ok-slot.slot.now below c.is.result c.args.self.now.sources.now.laid_out there c.is.ensures c.below.ensures.row c.below.ensures.none

pub returns-else-is-clause-stated : goal.returns-else-is-clause-stated
returns-else-is-clause-stated c =
    let rows = slots_in c.args.self.now.sources.now.table in
    let number = c.args.number in
    let found = c.in_ok-slot.ensures.lookup in
    let there : slice_get rows number ≡ Some c.in_ok-slot.slot.now = ap (λ l. slice_get l number) (sym c.slots.ensures)
    ∙ slice_get_read c.slots.result.now (length c.slots.result.now) number c.in_ok-slot.slot.now refl found.3.0 found.1 in
    stated_other rows number c.in_ok-slot.slot.now there (sym c.is.ensures ∙ c.if-is.false)
