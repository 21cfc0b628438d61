use Rattle.std.proofs.Common.{◌≡◌, Some, None, false, length, refl, sym, ap, ◌∙◌}
use Rattle.std.specs.Prelude.{slice_get}
use Rattle.std.specs.Option.{option_map_or}
use Rattle.std.proofs.lemmas.Option.{slice_get_read, slice_get_past}
use Rattle.yspec_wide.specs.Language.{is_yang_1, version_of}
use Rattle.ybase_preorder.specs.View.{slots_in}
use Rattle.ybase_preorder.specs.declared.slot.Slot.{Slot}
use Rattle.ylink_grammar.specs.declared.source.Source as held
use Rattle.yschema_plan.specs.PlanView.{view}
use Rattle.yschema_resolve.proofs.AdditionLemmas.{first_at}
use Rattle.yschema_resolve.proofs.additions.is_of_yang_1.Goals as goal

pub returns-in-Some : goal.returns-in-Some
returns-in-Some c = λ l are.
    let plan = view c.args.plan.now in
    let rows = slots_in c.sources.result.now.table in
    let n = c.args.number in
    let found = c.in-Some.ensures.lookup in
    let there : slice_get rows n ≡ Some c.in-Some.row.now = ap (λ rs. slice_get rs n) (sym c.slots.ensures)
    ∙ slice_get_read c.slots.result.now (length c.slots.result.now) n c.in-Some.row.now refl found.3.0 found.1 in
    c.is_yang_1.ensures l plan.modules are
    ∙ (sym (ap (λ o. option_map_or (λ (r : Slot held.Source). is_yang_1 (version_of l plan.modules r.label.home)) o false) there)
    ∙ first_at l plan rows n c.sources.ensures)

pub returns-in-None : goal.returns-in-None
returns-in-None c = λ l are.
    let plan = view c.args.plan.now in
    let rows = slots_in c.sources.result.now.table in
    let n = c.args.number in
    let there : slice_get rows n ≡ None = ap (λ rs. slice_get rs n) (sym c.slots.ensures)
    ∙ slice_get_past c.slots.result.now n c.in-None.ensures.lookup.3 in
    sym (ap (λ o. option_map_or (λ (r : Slot held.Source). is_yang_1 (version_of l plan.modules r.label.home)) o false) there)
    ∙ first_at l plan rows n c.sources.ensures
