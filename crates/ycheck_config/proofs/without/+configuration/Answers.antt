use Rattle.std.proofs.Common.{sym, ap, ◌∙◌, arith}
use Rattle.yspec.specs.document.StateData.{configuration_tree, is_state}
use Rattle.yschema_model.specs.View as schema_view
use Rattle.yinst_tree.specs.View.{view}
use Rattle.ycheck_config.proofs.RowLemmas.{kept_on, kept_all, kept_pushed}
use Rattle.ycheck_config.proofs.without.+configuration.Goals as goal

pub configuration_row-loop-stored-preserved : goal.configuration_row-loop-stored-preserved
configuration_row-loop-stored-preserved t c =
    let l = c.loop-stored in
    kept_on (schema_view.view c.args.schema.now) c.args.row.now l.nodes.items c.add_configuration.new.nodes.items l.stored-index c.stored-item.result _
    (omega arith) c.stored-item.is c.in_ok-add_configuration.ensures l.invariant

pub configuration_row-returns : goal.configuration_row-returns
configuration_row-returns t c =
    let l = c.loop-stored in
    kept_all (schema_view.view c.args.schema.now) c.args.row.now l.nodes.items l.stored-index _ (omega arith) l.invariant

pub add_configuration-returns : goal.add_configuration-returns
add_configuration-returns t c =
    let s = schema_view.view c.args.schema.now in
    let here = view c.args.stored.now in
    kept_pushed s c.args.nodes.now.items c.push.new.self.items c.in_ok-with_below.field-0 here.0 here.1
    (sym (ap (is_state s) c.id.ensures) ∙ (sym c.is_state.ensures ∙ c.if-is_state.false)) c.in_ok-push.ensures.items
    (c.in_ok-with_below.ensures ∙ ap (λ r. (here.0, r)) (c.in_ok-below.ensures ∙ ap (configuration_tree s) c.below.ensures.below))
