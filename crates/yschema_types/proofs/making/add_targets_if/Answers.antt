use Rattle.std.proofs.Common.{◌++◌, [], option_map, sym, ap, ◌∙◌}
use Rattle.std.specs.Option.{option_map_or}
use Rattle.std.proofs.lemmas.List.{append-nil}
use Rattle.yspec.specs.linking.Planned.{targets_by}
use Rattle.yschema_model.specs.Layout.{targets_view}
use Rattle.yschema_types.proofs.making.add_targets_if.Goals as goal

pub returns-in_ok-add_targets-in-Some : goal.returns-in_ok-add_targets-in-Some
returns-in_ok-add_targets-in-Some c =
    c.in_ok-add_targets-in-Some.ensures
    ∙ ap (λ o. targets_view c.args.targets.now.items ++ option_map_or (λ type. targets_by c.args.number c.args.required type.shape) o [])
    (ap (option_map (λ t. t.now)) (sym c.in-Some.is))

pub returns-in-None : goal.returns-in-None
returns-in-None c =
    sym (append-nil (targets_view c.args.targets.now.items))
    ∙ ap (λ o. targets_view c.args.targets.now.items ++ option_map_or (λ type. targets_by c.args.number c.args.required type.shape) o [])
    (ap (option_map (λ t. t.now)) (sym c.in-None.is))
