use Rattle.std.proofs.Common.{subst}
use Rattle.yspec.specs.Results.{Gives}
use Rattle.yspec_wide.proofs.CoreCompilingLemmas.{compiled_alike}
use Rattle.ytext.specs.View.{modules_view}
use Rattle.ylink.specs.Told.{told_by}
use Rattle.yschema_model.specs.View.{view}
use Rattle.yschema.proofs.building.compile.Goals as goal

pub returns-clause-exact : goal.returns-clause-exact
returns-clause-exact c =
    subst (λ answer. Gives view told_by c.compile_in.result answer) (compiled_alike (modules_view c.args.modules.now)) c.compile_in.ensures.exact
