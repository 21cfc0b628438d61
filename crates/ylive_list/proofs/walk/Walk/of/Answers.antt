use Rattle.yschema_model.specs.View as schema_view
use Rattle.ystore.specs.Viewed.{viewed}
use Rattle.ylive_list.proofs.WalkLemmas.{started}
use Rattle.ylive_list.proofs.WalkedLemmas.{walked_are_faults}
use Rattle.ylive_list.proofs.walk.Walk.of.Goals as goal

pub returns-clause-listed : goal.returns-clause-listed
returns-clause-listed c =
    started (schema_view.view c.args.schema.now) (viewed c.args.view) c.of.result c.new-rows.result.items c.push.new.self.items
    c.new-rows.ensures c.push.ensures.items c.of.ensures

pub returns-clause-faults : goal.returns-clause-faults
returns-clause-faults c f hangs tells fits =
    walked_are_faults c.args.schema.now (viewed c.args.view) _
    (started (schema_view.view c.args.schema.now) (viewed c.args.view) c.of.result c.new-rows.result.items c.push.new.self.items
    c.new-rows.ensures c.push.ensures.items c.of.ensures) f hangs tells fits
