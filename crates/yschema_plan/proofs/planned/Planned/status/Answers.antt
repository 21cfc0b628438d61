use Rattle.std.proofs.Common.{◌≡◌, ap, sym, ◌∙◌}
use Rattle.std.specs.Prelude.{option_map, option_and_then, unwrap_or}
use Rattle.yspec.specs.schema.Schema.{current}
use Rattle.yspec.specs.linking.Arguments.{status_of}
use Rattle.ybase_words.specs.WordView.{status_view}
use Rattle.ybase_words.specs.declared.word.Status.TheVariants as states
use Rattle.yschema_plan.proofs.FactLemmas.{unwrap_map}
use Rattle.yschema_plan.proofs.planned.Planned.status.Goals as goal

pub returns-in-Some : goal.returns-in-Some
returns-in-Some c =
    let value : status_view c.unwrap_or.result ≡ unwrap_or (status_of c.in-Some.text.now) current =
    ap status_view c.unwrap_or.ensures ∙ (unwrap_map status_view c.status_of.result states.Current ∙ ap (λ o. unwrap_or o current) c.status_of.ensures) in
    λ number. value ∙ ap (λ o. unwrap_or (option_and_then status_of o) current) (ap (option_map (λ t. t.now)) (sym c.in-Some.is) ∙ c.own_argument.ensures number)

pub returns-in-None : goal.returns-in-None
returns-in-None c = λ number. ap (λ o. unwrap_or (option_and_then status_of o) current) (ap (option_map (λ t. t.now)) (sym c.in-None.is) ∙ c.own_argument.ensures number)
