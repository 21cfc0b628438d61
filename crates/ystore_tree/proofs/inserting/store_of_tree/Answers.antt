use Rattle.std.proofs.Common.{rules, ◌∙◌}
use Rattle.yspec.specs.Forest.{end}
use Rattle.yinst_tree.specs.View.{tree_view}
use Rattle.ystore.specs.Views.{store_of}
use Rattle.ystore_rows.specs.declared.row.Row.TheVariants.{Top}
use Rattle.ystore_tree.proofs.OpenLemmas.{holds_sorted, keeps_nothing, same_store}
use Rattle.ystore_tree.proofs.inserting.store_of_tree.Goals as goal

pub returns : goal.returns
returns c sorted =
    same_store (store_of c.insert_tree.new.counted) _ (tree_view c.args.tree.now) (search rules)
    (holds_sorted (store_of c.insert_tree.new.counted) (tree_view c.args.tree.now) sorted
    (c.in_ok-insert_tree.ensures.trees end
    (keeps_nothing (store_of c.counted-counted.result) (c.counted-counted.ensures.store.held Top ∙ c.new-nodes.ensures.top)
    (c.counted-counted.ensures.store.node_count ∙ c.new-nodes.ensures.count))))
