use Rattle.std.proofs.Common.{ap, ◌∙◌}
use Rattle.std.specs.Prelude.{slice_set}
use Rattle.yschema_plan.specs.PlanView.{view}
use Rattle.yschema_types.specs.MadeTypes.{made_node}
use Rattle.yschema_types.specs.MadeView.{rows_view}
use Rattle.yschema_types.specs.TypesView.{homes_in, meants_view}
use Rattle.yschema_types.proofs.making.make.Goals as goal

pub returns : goal.returns
returns c =
    let old = rows_view c.args.made.now.items in
    c.hold.ensures ∙ ap (slice_set old c.args.number) (c.in_ok-one.ensures
    ∙ ap (λ rows. made_node (homes_in c.args.modules.now) (view c.args.plan.now) (meants_view c.args.meant.now) (rows_view rows) c.args.number) c.as_slice.ensures.value)
