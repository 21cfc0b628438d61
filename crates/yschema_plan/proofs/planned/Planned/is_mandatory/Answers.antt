use Rattle.std.proofs.Common.{rules, ◌≡◌, ap, sym, ◌∙◌, false}
use Rattle.std.specs.Prelude.{option_map}
use Rattle.std.specs.Option.{option_map_or}
use Rattle.yspec.specs.linking.Planned.{is_said}
use Rattle.yschema_plan.proofs.planned.Planned.is_mandatory.Goals as goal

pub returns-in-Some : goal.returns-in-Some
returns-in-Some c =
    let said : c.eq.result ≡ is_said c.in-Some.text.now = first_of (search rules, cc) in
    λ number. said ∙ ap (λ o. option_map_or is_said o false) (ap (option_map (λ t. t.now)) (sym c.in-Some.is) ∙ c.own_argument.ensures number)

pub returns-in-None : goal.returns-in-None
returns-in-None c = λ number. ap (λ o. option_map_or is_said o false) (ap (option_map (λ t. t.now)) (sym c.in-None.is) ∙ c.own_argument.ensures number)
