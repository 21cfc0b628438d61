use Rattle.std.proofs.Common.{◌≡◌, false, length, sym, ap, ap₂, ◌∙◌, Some}
use Rattle.std.specs.Prelude.{option_map, string_bytes}
use Rattle.yspec.specs.document.Sorting.{IsSorted}
use Rattle.yspec.proofs.DocumentProofs.SortingLemmas.{in_order}
use Rattle.yspec_session.specs.Session.{faults_below}
use Rattle.yschema_model.specs.View as schema_view
use Rattle.yinst_tree.specs.View.{tree_view}
use Rattle.yinst_path.specs.Applying.{told_by}
use Rattle.yinst_path.specs.EditView.{path_view}
use Rattle.yinst.specs.Locating.{spots_view}
use Rattle.ycheck.specs.View.{views}
use Rattle.ysay_session.specs.AnswerText.{edit_refused_text, listed_text}
use Rattle.ylive.specs.View.{view}
use Rattle.yapp_session.specs.Answered.{below_text, configured_view}
use Rattle.yapp_session.proofs.QuestionLemmas.{below_listed, below_refused}
use Rattle.yapp_session.proofs.TextLemmas.{if_ok}
use Rattle.yapp_session.proofs.questions.node_faults.Goals as goal

pub returns-in-Ok : goal.returns-in-Ok
returns-in-Ok c =
    let live = view c.args.live.now in
    let looks = configured_view c.args.configured.now in
    let tree = tree_view c.in_ok-tree.tree in
    let fs = views c.in_ok-faults.faults.items in
    let sorted : IsSorted tree = in_order live.schema tree c.in_ok-tree.ensures.fitting in
    if_ok (λ text. IsSorted tree → string_bytes text
    ≡ listed_text (schema_view.view c.schema-in-Ok.result.now) tree (faults_below (spots_view c.as_slice.result.now) fs) (length fs))
    (λ text. live.is_stale ≡ false → string_bytes text ≡ below_text looks live (path_view c.args.path.now))
    (λ text said fresh. below_listed looks live (path_view c.args.path.now) (schema_view.view c.schema.result.now) tree fs c.schema.ensures c.in_ok-tree.ensures.copy c.in_ok-faults.ensures
    (spots_view c.in-Ok.place.items) (string_bytes text) c.in-Ok.ensures
    (said sorted ∙ ap₂ (λ s place. listed_text s tree (faults_below place fs) (length fs)) (c.schema-in-Ok.ensures ∙ sym c.schema.ensures)
    (ap spots_view c.as_slice.ensures.value)))
    c.listed_below.result c.listed_below.ensures

pub returns-in-Err : goal.returns-in-Err
returns-in-Err c =
    let live = view c.args.live.now in
    let looks = configured_view c.args.configured.now in
    if_ok (λ text. option_map edit_refused_text (told_by c.in-Err.fault) ≡ Some (string_bytes text))
    (λ text. live.is_stale ≡ false → string_bytes text ≡ below_text looks live (path_view c.args.path.now))
    (λ text said fresh. below_refused looks live (path_view c.args.path.now) (schema_view.view c.schema.result.now) (tree_view c.in_ok-tree.tree) (views c.in_ok-faults.faults.items) c.schema.ensures
    c.in_ok-tree.ensures.copy c.in_ok-faults.ensures c.in-Err.fault (string_bytes text) c.in-Err.ensures said)
    c.fault_text.result c.fault_text.ensures
