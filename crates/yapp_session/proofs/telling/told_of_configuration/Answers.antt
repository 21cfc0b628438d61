use Rattle.std.proofs.Common.{ap, ◌∙◌}
use Rattle.std.proofs.lemmas.List.{map-append}
use Rattle.yschema_model.specs.View as schema_view
use Rattle.yinst_tree.specs.View.{tree_view}
use Rattle.ycheck.specs.View.{view, views}
use Rattle.ylive.specs.View as live_view
use Rattle.yapp_session.proofs.CameLemmas.{told_both}
use Rattle.yapp_session.proofs.telling.told_of_configuration.Goals as goal

pub returns : goal.returns
returns c =
    told_both (live_view.view c.args.live.now) (schema_view.view c.args.configured.now) (schema_view.view c.schema-whole.result.now) (tree_view c.in_ok-tree.tree)
    (tree_view c.in_ok-left.left) (views c.in_ok-found.found.items) (views c.in_ok-others.others.items) _ c.schema-whole.ensures c.in_ok-tree.ensures.copy
    c.in_ok-tree.ensures.fitting c.in_ok-left.ensures c.in_ok-found.ensures c.in_ok-others.ensures
    (ap views c.in_ok-append.ensures.items ∙ map-append view c.in_ok-found.found.items c.in_ok-others.others.items)
