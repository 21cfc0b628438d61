use Rattle.std.proofs.Common.{◌&&◌, not, is_some}
use Rattle.yspec.specs.linking.Keyword.{list_word, key_word}
use Rattle.yspec.specs.linking.Planned.{is_a, stated_in}
use Rattle.yspec.specs.linking.NodeBreaks.{is_config_above}
use Rattle.yschema_plan.specs.PlannedView.{planned_view}
use Rattle.yschema_plan.specs.PlanView.{view}
use Rattle.yschema_resolve.proofs.ConfigLemmas.{below_state, below_config}
use Rattle.yschema_resolve.proofs.config.is_wrong_config.Goals as goal

pub returns-then-not-is_config_above : goal.returns-then-not-is_config_above
returns-then-not-is_config_above c = λ number.
    let p = planned_view number c.args.planned.now in
    below_state c.args.planned.now.config c.is_config_above.result (is_config_above (view c.args.plan.now) p) (is_a list_word p && not (is_some (stated_in key_word p)))
    c.if-planned.true c.if-not-is_config_above.true (c.is_config_above.ensures number)

pub returns-else-not-is_config_above : goal.returns-else-not-is_config_above
returns-else-not-is_config_above c = λ number.
    let p = planned_view number c.args.planned.now in
    below_config c.args.planned.now.config c.is_config_above.result (is_config_above (view c.args.plan.now) p) (is_a list_word p && not (is_some (stated_in key_word p)))
    c.lacks_key.result c.if-planned.true c.if-not-is_config_above.false (c.is_config_above.ensures number) (c.lacks_key.ensures number)
