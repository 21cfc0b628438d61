use Rattle.std.proofs.Common.{◌∷◌, None, Some, ap, sym, ◌∙◌}
use Rattle.std.specs.Prelude.{option_map}
use Rattle.yschema_model.proofs.ReferenceLemmas.{found_by}
use Rattle.yinst_tree.specs.View.{place_view, step_view}
use Rattle.ysay_lines.specs.Found.{answer, entry_at}
use Rattle.ysay_lines.proofs.AnswerLemmas.{from_array, from_object}
use Rattle.ysay_lines.proofs.located.+leading.Goals as goal

pub from_member-returns-in-Some : goal.from_member-returns-in-Some
from_member-returns-in-Some t c =
    let m = c.in-Object.by_node in
    let step = step_view c.args.step.now in
    let rest = place_view c.args.rest.now in
    c.from_entry.ensures
    ∙ (from_object c.in-Object.here m step rest (Some c.in-Some.value.now) (c.in-Some.ensures.value ∙ found_by m.entries c.args.step.now.id.0)
    ∙ sym (ap (λ l. answer l None (step ∷ rest)) c.in-Object.is))

pub from_member-returns-in-None : goal.from_member-returns-in-None
from_member-returns-in-None t c =
    let m = c.in-Object.by_node in
    let step = step_view c.args.step.now in
    let rest = place_view c.args.rest.now in
    from_object c.in-Object.here m step rest None (c.in-None.ensures.value ∙ found_by m.entries c.args.step.now.id.0)
    ∙ sym (ap (λ l. answer l None (step ∷ rest)) c.in-Object.is)

pub at_position-returns-in-Some : goal.at_position-returns-in-Some
at_position-returns-in-Some t c =
    let v = c.in-Array.items in
    let position = c.args.position in
    let steps = place_view c.args.steps.now in
    let is = sym (ap (option_map (λ r. r.now)) c.in-Some.is) ∙ (c.entry_at.ensures ∙ ap (entry_at position) c.deref.ensures.value) in
    c.from_value.ensures ∙ (from_array c.in-Array.here v position steps (Some c.in-Some.item.now) is ∙ sym (ap (λ l. answer l (Some position) steps) c.in-Array.is))

pub at_position-returns-in-None : goal.at_position-returns-in-None
at_position-returns-in-None t c =
    let v = c.in-Array.items in
    let position = c.args.position in
    let steps = place_view c.args.steps.now in
    let is = sym (ap (option_map (λ r. r.now)) c.in-None.is) ∙ (c.entry_at.ensures ∙ ap (entry_at position) c.deref.ensures.value) in
    from_array c.in-Array.here v position steps None is ∙ sym (ap (λ l. answer l (Some position) steps) c.in-Array.is)
