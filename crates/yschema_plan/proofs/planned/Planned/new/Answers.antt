use Rattle.std.proofs.Common.{◌≡◌, sym, ap, ◌∙◌, rules}
use Rattle.std.specs.Prelude.{option_map}
use Rattle.std.specs.Option.{option_map_or}
use Rattle.yspec.specs.linking.Planned.{is_said}
use Rattle.yschema_expand.specs.NodeView.{part_view}
use Rattle.yschema_plan.proofs.PartLemmas.{planned_so}
use Rattle.yschema_plan.proofs.planned.Planned.new.Goals as goal

pub returns-in-Some : goal.returns-in-Some
returns-in-Some c = λ number.
    let a = c.args.around in
    let said : c.eq.result ≡ is_said c.in-Some.text.now = first_of (search rules, cc) in
    ap (planned_so number a.parent a.scope (part_view c.args.node.now))
    (said ∙ ap (λ o. option_map_or is_said o a.config) (ap (option_map (λ t. t.now)) (sym c.in-Some.is) ∙ c.own_argument.ensures number))

pub returns-in_default : goal.returns-in_default
returns-in_default c = λ number.
    let a = c.args.around in
    ap (planned_so number a.parent a.scope (part_view c.args.node.now))
    (ap (λ o. option_map_or is_said o a.config) (ap (option_map (λ t. t.now)) (sym c.in_default.is) ∙ c.own_argument.ensures number))
