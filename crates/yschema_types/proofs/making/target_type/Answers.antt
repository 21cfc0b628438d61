use Rattle.std.proofs.Common.{option_map, sym, ap, ◌∙◌}
use Rattle.std.specs.Prelude.{option_and_then}
use Rattle.yschema_plan.specs.NodesView.{node_view}
use Rattle.yschema_types.specs.MadeTypes.{types_held}
use Rattle.yschema_types.specs.MadeView.{rows_view}
use Rattle.yschema_types.proofs.making.target_type.Goals as goal

pub returns-in-Some : goal.returns-in-Some
returns-in-Some c = λ p owner.
    c.type_held.ensures
    ∙ ap (option_and_then (types_held (rows_view c.args.made.now))) (ap (option_map node_view) (sym c.in-Some.is) ∙ c.path_target.ensures p owner)

pub returns-in-None : goal.returns-in-None
returns-in-None c = λ p owner.
    ap (option_and_then (types_held (rows_view c.args.made.now))) (ap (option_map node_view) (sym c.in-None.is) ∙ c.path_target.ensures p owner)
