use Rattle.std.proofs.Common.{subst, sym}
use Rattle.std.proofs.lemmas.Result.{on_ok_weaker}
use Rattle.yschema_model.specs.Layout.{absence_view}
use Rattle.ycheck.specs.Targets.{Gathers, default_value}
use Rattle.ycheck.proofs.targets.add_default.Goals as goal

pub returns-in-DefaultUsed : goal.returns-in-DefaultUsed
returns-in-DefaultUsed c =
    on_ok_weaker c.add_copy.result (λ so. subst (λ absence. Gathers c.args.targets.now c.add_copy.new.targets (default_value c.args.id.0 (absence_view absence))) (sym c.in-DefaultUsed.is) so) c.add_copy.ensures
