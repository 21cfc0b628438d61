use Rattle.std.proofs.Common.{◌∙◌, ◌++◌, ap, arith}
use Rattle.std.specs.Prelude.{option_map}
use Rattle.yspec.specs.document.StateData.{step_behind}
use Rattle.yschema_model.specs.View as schema_view
use Rattle.yinst_tree.specs.View.{place_view, step_view, view}
use Rattle.ycheck.specs.View.{views}
use Rattle.ycheck_config.proofs.RowLemmas.{told_first, told_on, told_all}
use Rattle.ycheck_config.proofs.state.+state.Goals as goal

pub look_at_row-loop-stored-preserved : goal.look_at_row-loop-stored-preserved
look_at_row-loop-stored-preserved t c =
    let l = c.loop-stored in
    let s = schema_view.view c.args.schema.now in
    let x = c.stored-item.result in
    let last = option_map step_view l.last in
    let step = step_view c.step_behind-step.result in
    record {
      place = c.in_ok-look_at_node.ensures.place ∙ l.invariant.place;
      found = told_on s (place_view c.args.findings.now.place.items) last step c.args.row.now l.stored-index x (views l.findings.faults.items)
          (views c.look_at_node.new.findings.faults.items) _ (omega arith) c.stored-item.is
          (c.step_behind-step.ensures.step ∙ ap (step_behind s last) c.id.ensures)
          (c.in_ok-look_at_node.ensures.found ∙ ap (λ steps. views l.findings.faults.items ++ told_first s (place_view steps) last step (view x)) l.invariant.place)
          l.invariant.found;
      few = c.step_behind-step.ensures.few l.stored-index l.invariant.few;
    }

pub look_at_row-returns-clause-found : goal.look_at_row-returns-clause-found
look_at_row-returns-clause-found t c =
    let l = c.loop-stored in
    told_all (schema_view.view c.args.schema.now) (place_view c.args.findings.now.place.items) (option_map step_view l.last) c.args.row.now l.stored-index
    (views l.findings.faults.items) _ (omega arith) l.invariant.found
