use Rattle.std.proofs.Common.{◌≡◌, ap, sym, ◌∙◌}
use Rattle.std.specs.Prelude.{option_map, option_and_then, unwrap_or}
use Rattle.yspec.specs.linking.Arguments.{count_of}
use Rattle.yschema_plan.proofs.planned.Planned.min_elements.Goals as goal

pub returns-in-Some : goal.returns-in-Some
returns-in-Some c =
    let value : c.unwrap_or.result ≡ unwrap_or (count_of c.in-Some.text.now) 0 = c.unwrap_or.ensures ∙ ap (λ o. unwrap_or o 0) c.count.ensures in
    λ number. value ∙ ap (λ o. unwrap_or (option_and_then count_of o) 0) (ap (option_map (λ t. t.now)) (sym c.in-Some.is) ∙ c.own_argument.ensures number)

pub returns-in-None : goal.returns-in-None
returns-in-None c = λ number. ap (λ o. unwrap_or (option_and_then count_of o) 0) (ap (option_map (λ t. t.now)) (sym c.in-None.is) ∙ c.own_argument.ensures number)
