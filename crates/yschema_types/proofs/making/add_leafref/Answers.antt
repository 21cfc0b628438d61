use Rattle.std.proofs.Common.{◌++◌, [], option_map, sym, ap, ◌∙◌}
use Rattle.std.specs.Option.{option_map_or}
use Rattle.std.proofs.lemmas.List.{append-nil}
use Rattle.yspec.specs.linking.Planned.{targets_by}
use Rattle.yschema_model.specs.Layout.{targets_view}
use Rattle.yschema_plan.specs.NodesView.{node_view}
use Rattle.yschema_types.specs.MadeTypes.{targets_to, types_held}
use Rattle.yschema_types.specs.MadeView.{rows_view}
use Rattle.yschema_types.proofs.making.add_leafref.Goals as goal

pub returns-in_ok-add_targets_if-in-Some : goal.returns-in_ok-add_targets_if-in-Some
returns-in_ok-add_targets_if-in-Some c =
    let old = targets_view c.args.targets.now.items in
    let to = targets_to (types_held (rows_view c.args.made.now)) c.args.required in
    c.in_ok-add_targets_if-in-Some.ensures
    ∙ (ap (λ o. old ++ option_map_or (λ type. targets_by c.in-Some.node.number c.args.required type.shape) o []) c.type_held-value_type.ensures
    ∙ ap (λ o. old ++ option_map_or to o []) (ap (option_map node_view) (sym c.in-Some.is)))

pub returns-in-None : goal.returns-in-None
returns-in-None c =
    let old = targets_view c.args.targets.now.items in
    let to = targets_to (types_held (rows_view c.args.made.now)) c.args.required in
    sym (append-nil old) ∙ ap (λ o. old ++ option_map_or to o []) (ap (option_map node_view) (sym c.in-None.is))
