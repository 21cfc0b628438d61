use Rattle.std.proofs.Common.{sym}
use Rattle.yspec.proofs.LinkingProofs.BuiltInLemmas.{name_of_named}
use Rattle.yschema_model.proofs.node.TypeName.of.Goals as goal

pub returns-in-Some : goal.returns-in-Some
returns-in-Some c = name_of_named _ _ (sym c.in-Some.ensures)
