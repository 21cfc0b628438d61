use Rattle.std.proofs.Common.{◌+◌, ◌++◌, ◌∙◌, string_bytes, sym, subst}
use Rattle.std.proofs.lemmas.List.{at_drop_more}
use Rattle.yspec.specs.document.Sorting.{IsSorted}
use Rattle.yschema_model.specs.View.{view}
use Rattle.yinst_tree.specs.View.{row_view, place_view}
use Rattle.ysay_place.specs.KeyedPath.{keyed_from}
use Rattle.ysay_place.proofs.PlaceLemmas.{found_sorted}
use Rattle.ysay_place.proofs.PredicateLemmas.{step_added}
use Rattle.ysay_place.proofs.path.keyed_path.Goals as goal

pub loop-step-preserved : goal.loop-step-preserved
loop-step-preserved c =
    let l = c.loop-step in
    let schema = view c.args.schema.now in
    let steps = c.args.steps.now in (
      step_added schema _ _ _ _ _ _ _ _ _ c.in_ok-add_keyed_step.ensures c.module_after-parent_module.ensures c.row_found-row.ensures
          (sym (at_drop_more (λ xs. string_bytes l.text ++ keyed_from schema l.parent_module (row_view l.row.now) (place_view xs)) steps l.step-index _ c.loop-step-test.true)
          ∙ l.invariant.0),
      λ is. subst IsSorted (sym c.row_found-row.ensures) (found_sorted (row_view l.row.now) _ (l.invariant.1 is)),
    )
