use Rattle.std.proofs.Common.{◌≡◌, ◌++◌, IfOk, string_bytes, codes, sym, ap, ap₂, ◌∙◌, subst}
use Rattle.yspec.specs.text.Text.{Text}
use Rattle.yspec.specs.document.Document.{instances_in}
use Rattle.yspec.specs.document.Sorting.{IsSorted}
use Rattle.yinst_tree.specs.View.{tree_view, place_view}
use Rattle.ysay_fault.specs.Cases.{stored_case_names}
use Rattle.ysay_place.proofs.PlaceLemmas.{row_sorted}
use Rattle.ysay_fault.proofs.sentences.several_cases.Goals as goal

pub returns : goal.returns
returns c = λ sorted.
    let name = c.args.name.now in
    let row_is_sorted = subst IsSorted (sym c.row_at.ensures) (row_sorted (tree_view c.args.tree.now) (place_view c.args.steps.now) sorted) in
    subst (λ (t : Text). IfOk c.concat.result (λ text. string_bytes text ≡ t))
    (ap (λ (names : Text). codes "the choice " ++ (name ++ (codes " has nodes of more than one case: " ++ (names ++ codes "."))))
    (c.as_str.ensures.value ∙ (c.in_ok-names.ensures row_is_sorted
    ∙ ap₂ (λ row children. stored_case_names (instances_in row) name children) c.row_at.ensures c.children_at.ensures)))
    c.concat.ensures.ok
