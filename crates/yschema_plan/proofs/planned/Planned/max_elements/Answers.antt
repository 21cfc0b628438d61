use Rattle.std.proofs.Common.{◌≡◌, ap, sym, ◌∙◌, None}
use Rattle.std.specs.Prelude.{option_map, option_and_then, unwrap_or}
use Rattle.yspec.specs.linking.Arguments.{max_elements_of}
use Rattle.yschema_plan.proofs.planned.Planned.max_elements.Goals as goal

pub returns-in-Some : goal.returns-in-Some
returns-in-Some c =
    let value : c.unwrap_or.result ≡ unwrap_or (max_elements_of c.in-Some.text.now) None = c.unwrap_or.ensures ∙ ap (λ o. unwrap_or o None) c.max_elements.ensures in
    λ number. value ∙ ap (λ o. unwrap_or (option_and_then max_elements_of o) None) (ap (option_map (λ t. t.now)) (sym c.in-Some.is) ∙ c.own_argument.ensures number)

pub returns-in-None : goal.returns-in-None
returns-in-None c = λ number. ap (λ o. unwrap_or (option_and_then max_elements_of o) None) (ap (option_map (λ t. t.now)) (sym c.in-None.is) ∙ c.own_argument.ensures number)
