use Rattle.std.proofs.Common.{◌≡◌, true, false, rules, sym, subst, ◌∙◌, arith}
use Rattle.yspec_wide.specs.Features.{stands}
use Rattle.ybase_preorder.specs.View.{row_by}
use Rattle.ylink_grammar.specs.SourceView.{source_view}
use Rattle.ylink_standing.specs.StandingView.{IsRowOf}
use Rattle.ylink_standing.proofs.RowLemmas.{one_fails, one_passes, all_passed}
use Rattle.ylink_standing.proofs.standing.FeaturesOn.stands_by.Goals as goal

pub returns-then-not-stands : goal.returns-then-not-stands
returns-then-not-stands c language modules is rows =
    let i = c.loop-row.row-index in
    let row = c.row-item.result in
    let falls : c.stands.result ≡ false = first_of (search rules, cc) in
    one_fails (λ r. stands language modules (row_by source_view r)) c.args.rows.now i row _ (omega arith) c.row-item.is
    (sym (c.stands.ensures.stands language modules is (subst (λ r. IsRowOf modules (row_by source_view r)) (sym c.row-item.is) (rows i row (omega arith)))) ∙ falls)
    (c.loop-row.invariant language modules is rows)

pub loop-row-preserved : goal.loop-row-preserved
loop-row-preserved c language modules is rows =
    let i = c.loop-row.row-index in
    let row = c.row-item.result in
    let holds : c.stands.result ≡ true = first_of (search rules, cc) in
    one_passes (λ r. stands language modules (row_by source_view r)) c.args.rows.now i row _ (omega arith) c.row-item.is
    (sym (c.stands.ensures.stands language modules is (subst (λ r. IsRowOf modules (row_by source_view r)) (sym c.row-item.is) (rows i row (omega arith)))) ∙ holds)
    (c.loop-row.invariant language modules is rows)

pub returns : goal.returns
returns c language modules is rows =
    all_passed (λ r. stands language modules (row_by source_view r)) c.args.rows.now c.loop-row.row-index _ (omega arith) (c.loop-row.invariant language modules is rows)
