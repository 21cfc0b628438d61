use Rattle.std.proofs.Common.{ap, ◌∙◌}
use Rattle.yspec_wide.specs.Types.{standing_names}
use Rattle.yschema_types.specs.MadeTypes.{made_at, targets_made}
use Rattle.yschema_types.specs.MadeView.{rows_view}
use Rattle.yschema_types.proofs.TypeLemmas.{kept_targets}
use Rattle.yschema_types.proofs.types.Types.member_targets.Goals as goal

pub returns : goal.returns
returns c = λ language plan p typed here.
    c.targets_held.ensures
    ∙ (ap (λ made. targets_made (made_at (rows_view made) c.args.number)) c.as_slice.ensures.value
    ∙ kept_targets (rows_view c.args.self.now.standing.items) (standing_names language plan.modules) plan c.args.number p typed.standing here)
