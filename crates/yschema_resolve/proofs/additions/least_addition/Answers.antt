use Rattle.std.proofs.Common.{◌≡◌, Some, None, [], ◌∷◌, length, refl, sym, ap, ap₂, ◌∙◌}
use Rattle.std.specs.Prelude.{slice_get}
use Rattle.std.proofs.lemmas.Option.{slice_get_read, slice_get_past}
use Rattle.yspec.specs.schema.Breaks.{least_from, when}
use Rattle.ybase_preorder.specs.View.{slots_in}
use Rattle.ylink_grammar.specs.BreakView.{break_view, seen}
use Rattle.yschema_plan.specs.Needs.{stands_in}
use Rattle.yschema_plan.specs.NodesView.{node_view}
use Rattle.yschema_plan.specs.PlanView.{view}
use Rattle.yschema_resolve.specs.Standing.{is_wrong_addition}
use Rattle.yschema_resolve.proofs.AdditionLemmas.{told_at_augment, no_augment}
use Rattle.yschema_resolve.proofs.additions.least_addition.Goals as goal

pub returns-in-Some-get : goal.returns-in-Some-get
returns-in-Some-get c =
    let start = seen c.args.so_far in
    let plan = view c.args.plan.now in
    let p = node_view c.args.node in
    let rows = slots_in c.sources.result.now.table in
    let n = c.in-Some.number in
    let found = c.in-Some-get.ensures.lookup in
    let there : slice_get rows n ≡ Some c.in-Some-get.row.now = ap (λ l. slice_get l n) (sym c.slots.ensures)
    ∙ slice_get_read c.slots.result.now (length c.slots.result.now) n c.in-Some-get.row.now refl found.3.0 found.1 in
    c.least_when.ensures
    ∙ (ap₂ (λ b found. least_from start (when b (break_view found ∷ []))) c.is_wrong_addition.ensures c.broken-found.ensures
    ∙ told_at_augment start plan p.part.added_by (is_wrong_addition (stands_in c.args.standing.now) plan p) rows n c.in-Some-get.row.now c.sources.ensures
    (sym c.in-Some.is ∙ c.added_by.ensures) there)

pub returns-in-None : goal.returns-in-None
returns-in-None c =
    let plan = view c.args.plan.now in
    let p = node_view c.args.node in
    let rows = slots_in c.sources.result.now.table in
    let n = c.in-Some.number in
    let there : slice_get rows n ≡ None = ap (λ l. slice_get l n) (sym c.slots.ensures)
    ∙ slice_get_past c.slots.result.now n c.in-None.ensures.lookup.3 in
    no_augment (seen c.args.so_far) plan p.part.added_by (is_wrong_addition (stands_in c.args.standing.now) plan p) rows n c.sources.ensures
    (sym c.in-Some.is ∙ c.added_by.ensures) there
