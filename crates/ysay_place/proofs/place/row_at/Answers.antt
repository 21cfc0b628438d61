use Rattle.std.proofs.Common.{◌+◌, ◌∙◌, drop, ap, sym, subst}
use Rattle.std.proofs.lemmas.List.{at_drop_more}
use Rattle.yspec.specs.document.Sorting.{IsSorted}
use Rattle.yinst_tree.specs.View.{row_view, place_view}
use Rattle.ysay_place.specs.Places.{row_at}
use Rattle.ysay_place.proofs.PlaceLemmas.{found_sorted}
use Rattle.ysay_place.proofs.place.row_at.Goals as goal

pub loop-step-preserved : goal.loop-step-preserved
loop-step-preserved c =
    let l = c.loop-step in
    let steps = c.args.steps.now in (
      ap (λ r. row_at r (place_view (drop (l.step-index + 1) steps))) c.row_found-row.ensures
          ∙ (sym (at_drop_more (λ xs. row_at (row_view l.row.now) (place_view xs)) steps l.step-index _ c.loop-step-test.true) ∙ l.invariant.0),
      λ is. subst IsSorted (sym c.row_found-row.ensures) (found_sorted (row_view l.row.now) _ (l.invariant.1 is)),
    )
