use Rattle.std.proofs.Common.{◌≡◌, List, ap, ap₂, ◌∙◌}
use Rattle.std.specs.Prelude.{string_bytes}
use Rattle.yspec.specs.schema.Schema.{Schema}
use Rattle.yspec.specs.document.Document.{Tree}
use Rattle.yspec.specs.document.Fault.{Fault}
use Rattle.yspec.specs.document.Sorting.{IsSorted}
use Rattle.yspec.proofs.DocumentProofs.SortingLemmas.{in_order}
use Rattle.yspec_session.specs.Carrying.{difference}
use Rattle.yschema_model.specs.View as schema_view
use Rattle.yinst_tree.specs.View.{tree_view}
use Rattle.ycheck.specs.View.{views}
use Rattle.ysay_session.specs.AnswerText.{changes_text}
use Rattle.ylive.specs.View.{view}
use Rattle.yapp_difference.specs.Turning.{turn_views}
use Rattle.yapp_session.specs.Answered.{configured_view, told_in}
use Rattle.yapp_session.proofs.TextLemmas.{if_ok}
use Rattle.yapp_session.proofs.telling.came_text.Goals as goal

pub returns : goal.returns
returns c =
    let live = view c.args.live.now in
    let looks = configured_view c.args.configured.now in
    let m = c.args.before in
    let n = c.args.after in
    let old = tree_view c.args.earlier.tree in
    let tree = tree_view c.in_ok-tree.tree in
    let fs = views c.args.earlier.faults.items in
    let turns = turn_views c.args.turns.now in
    let sorted : IsSorted tree = in_order live.schema tree c.in_ok-tree.ensures.fitting in
    if_ok (λ text. IsSorted old → IsSorted tree → string_bytes text ≡ changes_text (schema_view.view c.schema.result.now) old tree m n
    (record { told = views c.as_slice-told.result.now; gone = views c.as_slice-gone.result.now }))
    (λ text. IsSorted old → string_bytes text ≡ changes_text live.schema old live.tree m n (difference turns fs (told_in looks live)))
    (λ text said first. said first sorted
    ∙ (ap₂ (λ (gs hs : List Fault). changes_text (schema_view.view c.schema.result.now) old tree m n (record { told = gs; gone = hs }))
    (ap views c.as_slice-told.ensures.value) (ap views c.as_slice-gone.ensures.value)
    ∙ (ap₂ (λ (s : Schema) (t : Tree). changes_text s old t m n (record { told = views c.in_ok-came.came.told.items; gone = views c.in_ok-came.came.gone.items }))
    c.schema.ensures c.in_ok-tree.ensures.copy
    ∙ ap (changes_text live.schema old live.tree m n) (c.in_ok-came.ensures ∙ ap (difference turns fs) c.in_ok-later.ensures))))
    c.changes_text.result c.changes_text.ensures
