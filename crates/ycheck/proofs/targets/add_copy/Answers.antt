use Rattle.std.proofs.Common.{subst}
use Rattle.std.proofs.lemmas.Result.{on_ok_weaker}
use Rattle.ycheck.specs.Targets.{Gathers, one_value}
use Rattle.ycheck.proofs.targets.add_copy.Goals as goal

pub returns : goal.returns
returns c =
    on_ok_weaker c.add.result (λ so. subst (λ value. Gathers c.args.targets.now c.add.new.self (one_value c.args.id.0 value)) c.in_ok-clone.ensures so) c.add.ensures
