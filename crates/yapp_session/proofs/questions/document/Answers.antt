use Rattle.std.proofs.Common.{◌≡◌, ap₂, ◌∙◌}
use Rattle.std.specs.Prelude.{string_bytes}
use Rattle.yspec.specs.document.Sorting.{IsSorted}
use Rattle.yspec.proofs.DocumentProofs.SortingLemmas.{in_order}
use Rattle.yschema_model.specs.View as schema_view
use Rattle.yinst_tree.specs.View.{tree_view}
use Rattle.ysay_session.specs.AnswerText.{document_text}
use Rattle.ylive.specs.View.{view}
use Rattle.yapp_session.proofs.TextLemmas.{if_ok}
use Rattle.yapp_session.proofs.questions.document.Goals as goal

pub returns : goal.returns
returns c =
    let tree = tree_view c.in_ok-tree.tree in
    let sorted : IsSorted tree = in_order (view c.args.live.now).schema tree c.in_ok-tree.ensures.fitting in
    if_ok (λ text. IsSorted tree → string_bytes text ≡ document_text (schema_view.view c.schema.result.now) tree)
    (λ text. string_bytes text ≡ document_text (view c.args.live.now).schema (view c.args.live.now).tree)
    (λ text said. said sorted ∙ ap₂ document_text c.schema.ensures c.in_ok-tree.ensures.copy) c.document_text.result c.document_text.ensures
