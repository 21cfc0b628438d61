use Rattle.yschema_model.proofs.LeafTypeLemmas.{made_by_target, made_else}
use Rattle.yschema_model.proofs.node.LeafType.reference.Goals as goal

pub returns-in-Some : goal.returns-in-Some
returns-in-Some c = made_by_target c.args.self.now c.args.value c.in-Some.target c.requires_instance.result c.in-Some.is c.requires_instance.ensures

pub returns-in-None : goal.returns-in-None
returns-in-None c = made_else c.args.self.now c.args.value _ c.in-None.is c.member_reference.ensures
