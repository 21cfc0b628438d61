use Rattle.yspec.specs.Forest.{end}
use Rattle.yschema_model.specs.View as schema_view
use Rattle.yinst_tree.specs.View.{view}
use Rattle.ystore_tree.specs.Hanging.{tree_of}
use Rattle.ystore.specs.Views.{store_of}
use Rattle.ylive_edit.specs.Places.{branch_of}
use Rattle.ylive_edit.proofs.OpeningLemmas.{put_behind, sorted_below}
use Rattle.ylive_edit.proofs.opening.hang_whole.Goals as goal

pub hang_part-requires-clause-at : goal.hang_part-requires-clause-at
hang_part-requires-clause-at c = record { tree = c.requires.tree; steps = c.requires.steps; f = c.requires.f; at = c.requires.at }

pub hang_part-requires-clause-sorted : goal.hang_part-requires-clause-sorted
hang_part-requires-clause-sorted c = sorted_below (tree_of c.requires.f) (view c.args.stored).0 (view c.args.stored).1 end c.requires.sorted

pub returns-in-true-clause-hung : goal.returns-in-true-clause-hung
returns-in-true-clause-hung c = λ tree steps f at sorted.
    put_behind (schema_view.view c.args.schema.now) (store_of c.hang_part.new.counted) at.way (branch_of c.args.stored) (tree_of f) sorted
    (c.in_ok-hang_part.ensures.carries tree steps f at c.in-true.is)
