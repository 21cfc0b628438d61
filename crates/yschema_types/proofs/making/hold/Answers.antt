use Rattle.std.proofs.lemmas.List.{map-set}
use Rattle.yschema_types.specs.MadeView.{made_view}
use Rattle.yschema_types.proofs.making.hold.Goals as goal

pub returns-in-Some : goal.returns-in-Some
returns-in-Some c = map-set made_view c.args.made.now.items c.args.number c.args.one
