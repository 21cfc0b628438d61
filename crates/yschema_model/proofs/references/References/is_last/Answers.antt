use Rattle.std.proofs.Common.{None, Some, ap, ◌∙◌}
use Rattle.yschema_model.specs.References.{ends_with}
use Rattle.yschema_model.proofs.ReferenceLemmas.{last_is}
use Rattle.yschema_model.proofs.references.References.is_last.Goals as goal

pub returns-in-Some : goal.returns-in-Some
returns-in-Some c = last_is c.get.result.now (Some c.in-Some.last.now) c.args.id.0 c.in-Some.ensures.value ∙ ap (ends_with c.args.id.0) c.get.ensures

pub returns-in-None : goal.returns-in-None
returns-in-None c = last_is c.get.result.now None c.args.id.0 c.in-None.ensures.value ∙ ap (ends_with c.args.id.0) c.get.ensures
