use Rattle.std.proofs.Common.{ap}
use Rattle.ylink.specs.Told.{break_view}
use Rattle.yschema.proofs.ToldLemmas.{passed}
use Rattle.yschema.proofs.building.at_last.Goals as goal

pub returns-in-Some : goal.returns-in-Some
returns-in-Some c =
    passed c.args.modules.now c.in-Some.last.now c.args.is_passed (break_view c.broken.result) c.in-Some.ensures.item.3.0 c.in-Some.ensures.item.1 c.if-is_passed.true
    (ap break_view c.broken.ensures)
