use Rattle.std.proofs.Common.{map, sym, ap, ◌∙◌}
use Rattle.std.proofs.lemmas.List.{map-append}
use Rattle.yspec.proofs.DocumentProofs.SortingLemmas.{in_order}
use Rattle.yschema_model.specs.View as schema_view
use Rattle.yinst_tree.specs.View.{tree_view}
use Rattle.ycheck.specs.View.{view, views}
use Rattle.ycheck_config.proofs.ConfigurationLemmas.{alone_is, left_fits, left_whole, left_within}
use Rattle.ycheck_config.proofs.inspecting.inspect_configuration.Goals as goal

pub returns-clause-inspected : goal.returns-clause-inspected
returns-clause-inspected c =
    let s = schema_view.view c.args.schema in
    let t = tree_view c.args.tree in
    let s' = schema_view.view c.in_ok-schema.schema in
    let t' = tree_view c.in_ok-tree.tree in
    let fits = left_fits s s' t t' c.in_ok-schema.ensures c.in_ok-tree.ensures c.requires in
    alone_is s s' t t' c.in_ok-schema.ensures c.in_ok-tree.ensures (views c.in_ok-found.found.items) (views c.in_ok-others.others.items) _
    c.in_ok-found.ensures (c.in_ok-others.ensures (in_order s' t' fits))
    (ap views c.in_ok-append.ensures.items ∙ map-append view c.in_ok-found.found.items c.in_ok-others.others.items)

pub returns-clause-fits : goal.returns-clause-fits
returns-clause-fits c =
    left_fits _ _ _ _ c.in_ok-schema.ensures c.in_ok-tree.ensures c.requires

pub returns-clause-whole : goal.returns-clause-whole
returns-clause-whole c = left_whole _ _ _ _ c.in_ok-schema.ensures c.in_ok-tree.ensures

pub returns-clause-within : goal.returns-clause-within
returns-clause-within c = left_within _ _ _ _ c.in_ok-schema.ensures c.in_ok-tree.ensures
