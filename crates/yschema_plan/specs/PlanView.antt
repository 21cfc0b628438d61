-- Plans as the specification's.
use Rattle.yspec.specs.Forest.{Forest}
use Rattle.yspec.specs.linking.Parts.{Part}
use Rattle.yspec.specs.linking.Planned as spec
use Rattle.yspec.specs.linking.Source.{Source}
use Rattle.ybase_preorder.specs.Layout.{numbered_by}
use Rattle.ybase_preorder.specs.View.{forest_in}
use Rattle.ylink_grammar.specs.LinkView as link
use Rattle.yschema_plan.specs.PlannedView.{planned_view}
use Rattle.yschema_plan.specs.declared.plan.Plan.{Plan}

abbrev pub view : Plan → spec.Plan
view p = record { modules = link.view p.sources.now; nodes = numbered_by planned_view 0 (forest_in p.table) }

-- the plan of parts of a set of modules
abbrev pub plan_with : Forest Source → Forest Part → spec.Plan
plan_with modules parts = record { modules = modules; nodes = spec.planned 0 spec.at_top parts }
