use Rattle.std.proofs.Common.{ap, ◌∙◌}
use Rattle.yspec_wide.specs.Types.{standing_names}
use Rattle.yschema_types.specs.MadeTypes.{made_at, type_made}
use Rattle.yschema_types.specs.MadeView.{rows_view}
use Rattle.yschema_types.proofs.TypeLemmas.{kept_type}
use Rattle.yschema_types.proofs.types.Types.standing_type.Goals as goal

pub returns : goal.returns
returns c = λ language plan p typed here.
    c.type_held.ensures
    ∙ (ap (λ made. type_made (made_at (rows_view made) c.args.number)) c.as_slice.ensures.value
    ∙ kept_type (rows_view c.args.self.now.standing.items) (standing_names language plan.modules) plan c.args.number p typed.standing here)
