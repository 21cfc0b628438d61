use Rattle.std.proofs.Common.{◌≡◌, sym, ap, ◌∙◌, Some}
use Rattle.std.specs.Prelude.{IfSome, option_map, string_bytes}
use Rattle.yspec.specs.document.Sorting.{IsSorted}
use Rattle.yspec.proofs.DocumentProofs.SortingLemmas.{in_order}
use Rattle.yschema_model.specs.View as schema_view
use Rattle.yinst_tree.specs.View as document_view
use Rattle.yinst_path.specs.Applying.{told_by}
use Rattle.yinst_path.specs.EditView.{path_view}
use Rattle.ysay_session.specs.AnswerText.{edit_refused_text}
use Rattle.ylive.specs.View.{view}
use Rattle.yapp_asking.specs.Asking.{found_view}
use Rattle.yapp_session.specs.Answered.{found_text, value_text}
use Rattle.yapp_session.proofs.QuestionLemmas.{value_found, value_refused}
use Rattle.yapp_session.proofs.TextLemmas.{if_ok}
use Rattle.yapp_session.proofs.questions.node_value.Goals as goal

pub returns-in-Ok : goal.returns-in-Ok
returns-in-Ok c =
    let live = view c.args.live.now in
    let tree = document_view.tree_view c.in_ok-tree.tree in
    let s = schema_view.view c.schema.result.now in
    let sorted : IsSorted tree = in_order live.schema tree c.in_ok-tree.ensures.fitting in
    if_ok (λ text. IfSome c.in-Ok.found (λ stored. IsSorted (document_view.view stored.now).1)
    → string_bytes text ≡ found_text (schema_view.view c.schema-in-Ok.result.now) (found_view c.in-Ok.found))
    (λ text. string_bytes text ≡ value_text live (path_view c.args.path.now))
    (λ text said. value_found live (path_view c.args.path.now) s tree c.schema.ensures c.in_ok-tree.ensures.copy (found_view c.in-Ok.found) (string_bytes text) c.in-Ok.ensures.found
    (said (c.in-Ok.ensures.sorted sorted) ∙ ap (λ s. found_text s (found_view c.in-Ok.found)) (c.schema-in-Ok.ensures ∙ sym c.schema.ensures)))
    c.found_text.result c.found_text.ensures

pub returns : goal.returns
returns c =
    let live = view c.args.live.now in
    if_ok (λ text. option_map edit_refused_text (told_by c.in-Err.fault) ≡ Some (string_bytes text)) (λ text. string_bytes text ≡ value_text live (path_view c.args.path.now))
    (λ text said. value_refused live (path_view c.args.path.now) (schema_view.view c.schema.result.now) (document_view.tree_view c.in_ok-tree.tree) c.schema.ensures c.in_ok-tree.ensures.copy
    c.in-Err.fault (string_bytes text) c.in-Err.ensures.found said)
    c.fault_text.result c.fault_text.ensures
