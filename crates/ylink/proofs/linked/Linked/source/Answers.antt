use Rattle.std.proofs.Common.{◌≡◌, Some, None, length, refl, sym, ap, ◌∙◌}
use Rattle.std.specs.Prelude.{option_map, slice_get}
use Rattle.std.proofs.lemmas.Option.{slice_get_read, slice_get_past}
use Rattle.ybase_preorder.specs.View.{slots_in}
use Rattle.ybase_preorder.specs.declared.slot.Slot.{Slot}
use Rattle.ylink_grammar.specs.declared.source.Source as held
use Rattle.ylink_grammar.specs.SourceView.{source_view}
use Rattle.ytext.specs.View.{view}
use Rattle.ylink_names.proofs.BelowLemmas.{source_at}
use Rattle.ylink_grammar.proofs.WholeLemmas.{whole_row_at}
use Rattle.ylink.proofs.linked.Linked.source.Goals as goal

pub returns-in-Some-clause-label : goal.returns-in-Some-clause-label
returns-in-Some-clause-label c =
    let rows = slots_in c.args.self.now.sources.table in
    let id = c.args.id.0 in
    let found = c.in-Some.ensures.lookup in
    let there : slice_get rows id ≡ Some c.in-Some.row.now = ap (λ l. slice_get l id) (sym c.slots.ensures)
    ∙ slice_get_read c.slots.result.now (length c.slots.result.now) id c.in-Some.row.now refl found.3.0 found.1 in
    sym (ap (option_map (λ (r : Slot held.Source). source_view id r.label)) there) ∙ source_at rows id

pub returns-in-Some-clause-whole : goal.returns-in-Some-clause-whole
returns-in-Some-clause-whole c =
    let rows = slots_in c.args.self.now.sources.table in
    let id = c.args.id.0 in
    let found = c.in-Some.ensures.lookup in
    let there : slice_get rows id ≡ Some c.in-Some.row.now = ap (λ l. slice_get l id) (sym c.slots.ensures)
    ∙ slice_get_read c.slots.result.now (length c.slots.result.now) id c.in-Some.row.now refl found.3.0 found.1 in
    sym (ap (option_map (λ (r : Slot held.Source). view r.label.statement.now)) there) ∙ sym (whole_row_at rows id)

pub returns-in-None-clause-label : goal.returns-in-None-clause-label
returns-in-None-clause-label c =
    let rows = slots_in c.args.self.now.sources.table in
    let id = c.args.id.0 in
    let there : slice_get rows id ≡ None = ap (λ l. slice_get l id) (sym c.slots.ensures)
    ∙ slice_get_past c.slots.result.now id c.in-None.ensures.lookup.3 in
    sym (ap (option_map (λ (r : Slot held.Source). source_view id r.label)) there) ∙ source_at rows id

pub returns-in-None-clause-whole : goal.returns-in-None-clause-whole
returns-in-None-clause-whole c =
    let rows = slots_in c.args.self.now.sources.table in
    let id = c.args.id.0 in
    let there : slice_get rows id ≡ None = ap (λ l. slice_get l id) (sym c.slots.ensures)
    ∙ slice_get_past c.slots.result.now id c.in-None.ensures.lookup.3 in
    sym (ap (option_map (λ (r : Slot held.Source). view r.label.statement.now)) there) ∙ sym (whole_row_at rows id)
