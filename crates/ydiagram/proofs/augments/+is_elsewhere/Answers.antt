use Rattle.std.proofs.Common.{◌∙◌}
use Rattle.yschema_model.specs.View.{view}
use Rattle.ydiagram.proofs.AugmentLemmas.{elsewhere_above}
use Rattle.ydiagram.proofs.augments.+is_elsewhere.Goals as goal

pub returns-in-Some : goal.returns-in-Some
returns-in-Some t c =
    c.is_elsewhere.ensures ∙ elsewhere_above (view c.args.schema.now) c.args.shown c.args.id.0 c.in-Some.parent.0 c.in-Some.ensures.way c.in-Some.ensures.above
