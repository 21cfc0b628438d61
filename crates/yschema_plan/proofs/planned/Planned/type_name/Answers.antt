use Rattle.std.proofs.Common.{ap, sym, ◌∙◌, codes}
use Rattle.std.specs.Prelude.{option_map, unwrap_or}
use Rattle.yschema_plan.proofs.planned.Planned.type_name.Goals as goal

pub returns-in-Some : goal.returns-in-Some
returns-in-Some c = λ number. ap (λ o. unwrap_or o (codes "string")) (ap (option_map (λ t. t.now)) (sym c.in-Some.is) ∙ c.own_argument.ensures number)

pub returns-in-None : goal.returns-in-None
returns-in-None c = λ number. ap (λ o. unwrap_or o (codes "string")) (ap (option_map (λ t. t.now)) (sym c.in-None.is) ∙ c.own_argument.ensures number)
