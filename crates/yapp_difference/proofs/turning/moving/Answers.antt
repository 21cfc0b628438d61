use Rattle.std.proofs.Common.{ap}
use Rattle.yspec_session.specs.Carrying.{turned}
use Rattle.yinst.specs.Locating.{spot_view, spots_view}
use Rattle.yapp_difference.specs.Turning.{turns_beside, turns_view}
use Rattle.yapp_difference.proofs.TurningLemmas.{given_so}
use Rattle.yapp_difference.proofs.turning.moving.Goals as goal

pub returns : goal.returns
returns c =
    let to = c.args.to in
    given_so turns_view _ _ c.turns_beside.result
    (ap (λ p. turns_beside (spots_view c.args.above.now) (spot_view c.args.spot) (turned p to) (turned to p)) c.position_of-from.ensures) c.turns_beside.ensures
