use Rattle.std.proofs.Common.{ap₂}
use Rattle.yschema_plan.proofs.FactLemmas.{amount_by}
use Rattle.yschema_plan.proofs.planned.Planned.amount.Goals as goal

pub returns : goal.returns
returns c = λ number. ap₂ amount_by (c.min_elements.ensures number) (c.max_elements.ensures number)
