use Rattle.std.proofs.Common.{◌≡◌, [], IfOk, string_bytes, map, codes, ap, ◌∙◌, subst}
use Rattle.std.specs.Option.{option_map_or}
use Rattle.yspec.specs.text.Text.{Text}
use Rattle.yspec.specs.document.Document.{instances_in}
use Rattle.yinst_tree.specs.View.{row_view}
use Rattle.ysay_fault.specs.Cases.{case_names, listed}
use Rattle.ysay_value.proofs.JoiningLemmas.{joined}
use Rattle.ysay_fault.proofs.cases.stored_case_names.Goals as goal

pub returns-in_ok-case_names-in-Some : goal.returns-in_ok-case_names-in-Some
returns-in_ok-case_names-in-Some c = λ sorted.
    subst (λ (t : Text). IfOk c.join.result (λ text. string_bytes text ≡ t))
    (joined (λ name. name.now) (codes ", ") c.deref.result.now
    ∙ (ap listed (ap (map (λ name. name.now)) c.deref.ensures.value ∙ c.in_ok-case_names-in-Some.ensures sorted)
    ∙ ap (λ o. option_map_or (λ cases. listed (case_names (instances_in (row_view c.args.row.now)) cases)) o []) (c.in-Some.ensures sorted)))
    c.join.ensures.ok
