use Rattle.std.proofs.Common.{◌≡◌, rules, false, length, sym, ap, ap₂, ◌∙◌}
use Rattle.std.specs.Prelude.{string_bytes}
use Rattle.std.proofs.lemmas.List.{length-map}
use Rattle.yspec.specs.document.Sorting.{IsSorted}
use Rattle.yspec.proofs.DocumentProofs.SortingLemmas.{in_order}
use Rattle.yspec_session.specs.Session as spec
use Rattle.yschema_model.specs.View as schema_view
use Rattle.yinst_tree.specs.View.{tree_view}
use Rattle.ycheck.specs.View as faults
use Rattle.ysay_session.specs.AnswerText.{listed_text}
use Rattle.ylive.specs.View.{view}
use Rattle.yapp_session.specs.Answered.{configured_view, page_text}
use Rattle.yapp_session.proofs.TextLemmas.{if_ok}
use Rattle.yapp_session.proofs.questions.page.Goals as goal

pub returns : goal.returns
returns c =
    let live = view c.args.live.now in
    let looks = configured_view c.args.configured.now in
    let tree = tree_view c.in_ok-tree.tree in
    let sorted : IsSorted tree = in_order live.schema tree c.in_ok-tree.ensures.fitting in
    let counted : c.len.result ≡ length c.in_ok-faults.faults.items = search rules in
    if_ok (λ text. IsSorted tree → string_bytes text ≡ listed_text (schema_view.view c.schema.result.now) tree (faults.views c.page_of.result.now) c.len.result)
    (λ text. live.is_stale ≡ false → string_bytes text ≡ page_text looks live c.args.behind c.args.count)
    (λ text said fresh. said sorted
    ∙ (ap₂ (λ s t. listed_text s t (faults.views c.page_of.result.now) c.len.result) c.schema.ensures c.in_ok-tree.ensures.copy
    ∙ ap₂ (listed_text live.schema live.tree)
    (c.page_of.ensures ∙ ap (spec.page c.args.behind c.args.count) (ap faults.views c.deref.ensures.value ∙ c.in_ok-faults.ensures))
    (counted ∙ (sym (length-map c.in_ok-faults.faults.items faults.view) ∙ ap length c.in_ok-faults.ensures))))
    c.listed_text.result c.listed_text.ensures
