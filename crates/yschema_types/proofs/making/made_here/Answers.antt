use Rattle.std.proofs.Common.{◌≡◌, ◌+◌, Some, None, length, option_map, refl, sym, ap, ◌∙◌}
use Rattle.std.specs.Prelude.{slice_get}
use Rattle.std.specs.Option.{option_map_or}
use Rattle.std.proofs.lemmas.Option.{slice_get_read, slice_get_past}
use Rattle.std.proofs.lemmas.Result.{IfOk-weaker}
use Rattle.yspec.specs.linking.Planned.{nodes_of}
use Rattle.ybase_preorder.proofs.LabelLemmas.{label_at}
use Rattle.yschema_plan.specs.PlanView.{view}
use Rattle.yschema_plan.specs.PlannedView.{planned_view}
use Rattle.yschema_types.specs.MadeTypes.{made_as, nothing, types_held}
use Rattle.yschema_types.specs.MadeView.{rows_view}
use Rattle.yschema_types.specs.MeantNodes.{meant_at}
use Rattle.yschema_types.specs.TypesView.{homes_in, meants_view}
use Rattle.yschema_types.proofs.making.made_here.Goals as goal

pub returns-in-Some : goal.returns-in-Some
returns-in-Some c =
    let plan = view c.args.plan.now in
    let n = c.args.number in
    let rows = c.slots.result.now in
    let types = types_held (rows_view c.args.made.now) in
    let found = c.in-Some.ensures.lookup in
    let p = planned_view (0 + n) c.in-Some.row.now.label in
    let there : slice_get (nodes_of plan) n ≡ Some p =
    ap (λ ps. slice_get ps n) (sym c.slots.ensures.nodes) ∙ (label_at planned_view 0 rows n
    ∙ ap (option_map (λ r. planned_view (0 + n) r.label)) (slice_get_read rows (length rows) n c.in-Some.row.now refl found.3.0 found.1)) in
    IfOk-weaker c.made_of.result _ _ (λ one e. e
    ∙ (ap (made_as (homes_in c.args.modules.now) plan types p) c.meant_at.ensures
    ∙ sym (ap (λ o. option_map_or (λ q. made_as (homes_in c.args.modules.now) plan types q (meant_at (meants_view c.args.meant.now) n)) o nothing) there)))
    (c.made_of.ensures (0 + n))

pub returns-in-None : goal.returns-in-None
returns-in-None c =
    let plan = view c.args.plan.now in
    let n = c.args.number in
    let rows = c.slots.result.now in
    let types = types_held (rows_view c.args.made.now) in
    let there : slice_get (nodes_of plan) n ≡ None =
    ap (λ ps. slice_get ps n) (sym c.slots.ensures.nodes) ∙ (label_at planned_view 0 rows n
    ∙ ap (option_map (λ r. planned_view (0 + n) r.label)) (slice_get_past rows n c.in-None.ensures.lookup.3)) in
    sym (ap (λ o. option_map_or (λ q. made_as (homes_in c.args.modules.now) plan types q (meant_at (meants_view c.args.meant.now) n)) o nothing) there)
