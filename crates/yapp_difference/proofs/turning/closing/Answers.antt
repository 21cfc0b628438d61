use Rattle.std.proofs.Common.{Some, ap}
use Rattle.yspec_session.specs.Carrying.{closed_up, made_room}
use Rattle.yinst.specs.Locating.{spot_view, spots_view}
use Rattle.yapp_difference.specs.Turning.{turns_beside, turns_view}
use Rattle.yapp_difference.proofs.TurningLemmas.{given_so}
use Rattle.yapp_difference.proofs.turning.closing.Goals as goal

pub returns : goal.returns
returns c =
    given_so turns_view _ _ c.turns_beside.result
    (ap (λ p. turns_beside (spots_view c.args.above.now) (spot_view c.args.spot) (closed_up p) (λ q. Some (made_room p q))) c.position_of-position.ensures)
    c.turns_beside.ensures
