use Rattle.std.proofs.Common.{false}
use Rattle.yspec.proofs.DocumentProofs.SortingLemmas.{in_order}
use Rattle.yschema_model.specs.View as schema_view
use Rattle.yinst_tree.specs.View.{tree_view}
use Rattle.ylive.proofs.LiveLemmas.{live_told, opened_is}
use Rattle.ylive.proofs.live.Live.from_parts.Goals as goal

pub told_store-requires : goal.told_store-requires
told_store-requires c = in_order (schema_view.view c.args.schema) (tree_view c.args.tree) c.requires

pub invariant_of-result : goal.invariant_of-result
invariant_of-result c = live_told (schema_view.view c.args.schema) c.in-Ok.nodes false (tree_view c.args.tree) c.in-Ok.ensures c.requires

pub returns-in-Ok-clause-opened : goal.returns-in-Ok-clause-opened
returns-in-Ok-clause-opened c = opened_is (schema_view.view c.args.schema) c.in-Ok.nodes (tree_view c.args.tree) c.in-Ok.ensures
