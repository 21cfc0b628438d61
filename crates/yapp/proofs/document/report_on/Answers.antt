use Rattle.std.proofs.Common.{string_bytes, Bool, List, Some, None, map, ap, ◌∙◌}
use Rattle.std.specs.Prelude.{if◌then◌else◌, ◌&&◌, option_map}
use Rattle.yspec.proofs.DocumentProofs.SortingLemmas.{in_order}
use Rattle.yschema_model.specs.View as schema_view
use Rattle.yinst_tree.specs.View.{tree_view}
use Rattle.ysay_fault.specs.Sentences.{explained_fault}
use Rattle.yapp_words.specs.Command.{options_view}
use Rattle.ycheck_config.specs.Inspecting.{inspection_view}
use Rattle.yspec_run.specs.Output.{text_instead}
use Rattle.yapp_script.specs.Asked.{refused_parts}
use Rattle.yapp.specs.Edited.{schema_of, tree_of}
use Rattle.yapp_report.specs.Saving.{saved_view}
use Rattle.yapp_script.specs.declared.script.RefusedLine.{RefusedLine}
use Rattle.yapp.proofs.DocumentLemmas.{report_is}
use Rattle.yapp_report.proofs.ExplainedLemmas.{none_so}
use Rattle.yapp.proofs.document.report_on.Goals as goal

pub returns-clause-reported : goal.returns-clause-reported
returns-clause-reported c =
    let s = schema_of c.args.document in
    let t = tree_of c.args.document in
    let i = c.in_ok-inspection.inspection in
    report_is (options_view c.args.options) s (schema_view.view i.schema) t (tree_view i.tree) i.faults.items (option_map string_bytes c.args.document.script) c.args.document.refused.items c.in_ok-text.text
    (option_map saved_view c.in_ok-saved.saved) c.in_ok-inspection.ensures.inspected
    (c.in_ok-text.ensures s t c.in_ok-whole.ensures
    ∙ ap (λ (lines : List RefusedLine). text_instead (options_view c.args.options) s t (refused_parts lines) (inspection_view i)) c.deref.ensures.value)
    c.in_ok-saved.ensures

pub returns-clause-explained : goal.returns-clause-explained
returns-clause-explained c =
    let i = inspection_view c.in_ok-inspection.inspection in
    let said = map (explained_fault i.schema i.tree) i.faults in
    c.in_ok-explanations.ensures ∙ ap (λ (b : Bool). if c.args.with_reasons && b then Some said else None) (none_so c.in_ok-text.text c.is_none.result c.is_none.ensures)

pub returns-clause-sorted : goal.returns-clause-sorted
returns-clause-sorted c = let i = inspection_view c.in_ok-inspection.inspection in in_order i.schema i.tree c.in_ok-inspection.ensures.fits
