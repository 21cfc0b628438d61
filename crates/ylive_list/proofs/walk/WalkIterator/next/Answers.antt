use Rattle.std.proofs.Common.{◌≡◌, ◌∙◌, ◌∷◌, ap, arith, length, sym}
use Rattle.ylive_list.specs.Seen.{seen_view}
use Rattle.ylive_list.specs.Walked.{left}
use Rattle.ylive_list.proofs.walk.WalkIterator.next.Goals as goal

pub returns-in-Gives-clause-steps : goal.returns-in-Gives-clause-steps
returns-in-Gives-clause-steps c = sym c.loop-seen.invariant ∙ c.in-Gives.ensures

pub returns-in-Gives-clause-goes : goal.returns-in-Gives-clause-goes
returns-in-Gives-clause-goes c =
    let one : left c.args.self.now ≡ seen_view c.in-Gives.seen ∷ left c.turn.new.self = sym c.loop-seen.invariant ∙ c.in-Gives.ensures in
    record { on = λ _. (tt, tt, omega (arith, ap length one)); keeps = tt; rests = λ _. tt }
