use Rattle.std.proofs.Common.{ap, ◌∙◌}
use Rattle.yschema_model.specs.Layout.{number_of}
use Rattle.ystore.specs.Views.{store_of}
use Rattle.ylive_retell.proofs.PlanLemmas.{none_above, schema_above_is}
use Rattle.ylive_retell.proofs.planning.schema_above.Goals as goal

pub returns-in-Top-clause-schema : goal.returns-in-Top-clause-schema
returns-in-Top-clause-schema c way f hangs at = none_above way c.args.row c.in-Top.is at

pub returns-in-Below-clause-schema : goal.returns-in-Below-clause-schema
returns-in-Below-clause-schema c way f hangs at =
    ap number_of c.schema.ensures.schema ∙ schema_above_is (store_of c.args.counted.now) way f c.args.row c.in-Below.id c.in-Below.is at hangs
