use Rattle.std.proofs.Common.{ap, ◌∙◌, is_some}
use Rattle.yspec.proofs.BasicLemmas.{is_some_map}
use Rattle.yschema_plan.proofs.planned.Planned.is_typed.Goals as goal

pub returns : goal.returns
returns c = λ number. c.is_some.ensures ∙ (is_some_map (λ t. t.now) c.own_argument.result ∙ ap is_some (c.own_argument.ensures number))
