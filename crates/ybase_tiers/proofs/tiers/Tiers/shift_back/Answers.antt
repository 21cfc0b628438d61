use Rattle.std.proofs.Common.{arith}
use Rattle.ybase_tiers.proofs.TierLemmas.{run_later}
use Rattle.ybase_tiers.proofs.tiers.Tiers.shift_back.Goals as goal

pub move_back-carried-requires-clause-run : goal.move_back-carried-requires-clause-run
move_back-carried-requires-clause-run g c =
    let now = c.loop-at in
    run_later now.self.starts.items c.run_before.result c.max-next.result now.at (omega (arith, c.max-next.ensures)) c.run_before.ensures.run
