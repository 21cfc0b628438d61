use Rattle.std.proofs.Common.{ap}
use Rattle.std.specs.Prelude.{option_map}
use Rattle.yspec.specs.schema.References.{member_reference}
use Rattle.yschema_model.proofs.LeafTypeLemmas.{made_by_member}
use Rattle.yschema_model.proofs.node.LeafType.member_reference.Goals as goal

pub returns-in-Some : goal.returns-in-Some
returns-in-Some c = made_by_member c.args.value c.of_member.result c.in-Some.member _ c.in-Some.ensures c.of_member.ensures

pub returns-in-None : goal.returns-in-None
returns-in-None c = ap (option_map (member_reference c.args.value)) c.in-None.ensures
