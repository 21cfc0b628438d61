-- What a report or a failure comes to, as the outcome that it prints.
use Rattle.std.specs.Prelude.{◌≡◌, ◌++◌, ◌==◌, ◌&&◌, List, [], ◌∷◌, length, map, Option, None, String, option_map, codes, decimal, string_bytes, Result, Ok, Err, if◌then◌else◌}
use Rattle.std.specs.List.{flat_map}
use Rattle.std.specs.Option.{option_map_or}
use Rattle.ytext.specs.Told.{number_of}
use Rattle.ylink.specs.Told.{code_number}
use Rattle.yschema_model.specs.View as schema_view
use Rattle.yinst_tree.specs.Told as document
use Rattle.yinst_tree.specs.View.{place_view, tree_view}
use Rattle.ycheck.specs.View.{views}
use Rattle.yspec.specs.schema.Diagram.{diagram}
use Rattle.yspec_run.specs.Output.{Besides, Outcome, all_diagrams, another_cause, failed, failed_with, found, left, nothing, plainly, refusal_part, refused_document, report, unread, with_object}
use Rattle.yspec_run.specs.Hint.{hinted}
use Rattle.yspec_run.specs.Lines.{reworded_outcome}
use Rattle.yspec_run.specs.Part.{Part, plain}
use Rattle.yspec_run.specs.RefusalData.{module_object, module_tag, text_tag}
use Rattle.ysay_codes.specs.Codes.{explained}
use Rattle.ysay_codes.specs.View.{explanation_view}
use Rattle.yspec.specs.text.Text.{Text}
use Rattle.yapp_report.specs.EditedView.{live_of, refused_in, scripted_parts}
use Rattle.yapp_report.specs.Saving.{saved_view}
use Rattle.yapp_report.specs.Unread.{unreadable_view}
use Rattle.yapp_words.specs.Running.{without_memory}
use Rattle.yapp_report.specs.declared.failure.Failure.{Failure}
use Rattle.yapp_report.specs.declared.failure.Stop as declared
use Rattle.yapp_report.specs.declared.failure.Failure.TheVariants as failures
use Rattle.yapp_report.specs.declared.files.FileFault.{FileFault}
use Rattle.yapp_report.specs.declared.files.FileFault.TheVariants.{Unread, Memory}
use Rattle.yapp_report.specs.declared.report.Report.{Report}
use Rattle.yapp_report.specs.declared.report.Report.TheVariants as reports
use Rattle.yapp_report.specs.declared.report.DocumentReport.{DocumentReport}

-- an outcome with the line of a text in place of its own, if there is one
abbrev pub in_words : {A : Type 0} → Option (String A) → Outcome → Outcome
in_words jump o = reworded_outcome (option_map string_bytes jump) o

abbrev pub outcome_of : Failure → Outcome
outcome_of (failures.Unread name cause) = unread name.now
outcome_of (failures.Text name code line hint jump) = in_words jump
    (with_object (module_object text_tag name.now line (codes "L" ++ decimal (number_of code)))
    (failed_with 2 (hinted (string_bytes hint) (refusal_part name.now line (codes "L") (number_of code)))))
outcome_of (failures.Compile name code line hint jump) = in_words jump
    (with_object (module_object (module_tag (code_number code)) name.now line (codes "C" ++ decimal (code_number code)))
    (failed_with 2 (hinted (string_bytes hint) (refusal_part name.now line (codes "C") (code_number code)))))
outcome_of (failures.Document name schema code place hint stop jump) =
    in_words jump (refused_document (string_bytes hint) (schema_view.view schema) name.now
    (record { code = document.code_number code; place = place_view place.items }))
outcome_of (failures.Repeated name schema place hint jump) = in_words jump
    (refused_document (string_bytes hint) (schema_view.view schema) name.now (record { code = 8; place = place_view place.items }))
outcome_of (failures.NoModule name) = failed 2 (name.now ++ codes ": no such module")
outcome_of (failures.NoCode word) = failed 2 (word.now ++ codes ": no such code")
outcome_of failures.Memory = without_memory

-- a document's text in a line, or its faults and how many there are
abbrev pub document_parts : DocumentReport → List Part
document_parts r = option_map_or (λ text. plain (string_bytes text ++ codes "\n") ∷ []) r.text
    (report (schema_view.view r.schema) (tree_view r.tree) (views r.faults.items))

abbrev pub reported : Report → Outcome
reported (reports.Explanations explanations) =
    found 0 (flat_map explained (map (λ e. explanation_view e.now) explanations.items))
reported (reports.Nodes count) = found 0 (decimal count ++ codes " nodes\n")
reported (reports.Diagram schema shown) = found 0 (diagram (schema_view.view schema) shown)
reported (reports.Diagrams schema) = found 0 (all_diagrams (schema_view.view schema))
reported (reports.Document r) = record {
  output = document_parts r;
  errors = scripted_parts (option_map string_bytes r.script) r.refused.items;
  status = if length r.faults.items == 0 && length r.refused.items == 0 then 0 else 1;
  saved = option_map saved_view r.saved;
  aside = nothing;
  told = None;
}
reported (reports.Edited e) = left plainly (live_of e).schema (live_of e).tree (refused_in e)

-- where the reader of a document that isn't JSON stops
abbrev pub stop_view : declared.Stop → Besides
stop_view s = record { line = s.line; column = s.column; cause = another_cause }

abbrev pub unsaid : Besides
unsaid = record { line = 0; column = 0; cause = another_cause }

-- what the kit or the system says of a failure
abbrev pub besides_in : Failure → Besides
besides_in (failures.Unread name cause) = record unsaid { cause = unreadable_view cause }
besides_in (failures.Document name schema code place hint stop jump) = stop_view stop
besides_in _ = unsaid

-- the failure of the file of a name
abbrev pub FromFile : Text → FileFault → Failure → Type 0
FromFile name (Unread cause) failure = outcome_of failure ≡ unread name
FromFile name Memory failure = failure ≡ failures.Memory

-- a failure is the outcome; of want of memory nothing is said
abbrev pub FailsWith : Failure → Outcome → Type 0
FailsWith (failures.Unread name cause) o = o ≡ outcome_of (failures.Unread name cause)
FailsWith (failures.Text name code line hint jump) o = o ≡ outcome_of (failures.Text name code line hint jump)
FailsWith (failures.Compile name code line hint jump) o = o ≡ outcome_of (failures.Compile name code line hint jump)
FailsWith (failures.Document name schema code place hint stop jump) o =
    o ≡ outcome_of (failures.Document name schema code place hint stop jump)
FailsWith (failures.Repeated name schema place hint jump) o = o ≡ outcome_of (failures.Repeated name schema place hint jump)
FailsWith (failures.NoModule name) o = o ≡ outcome_of (failures.NoModule name)
FailsWith (failures.NoCode word) o = o ≡ outcome_of (failures.NoCode word)
FailsWith failures.Memory o = Unit {0}

-- what was returned goes on to the outcome so, or is the failure that it is
abbrev pub LeadsTo : {X : Type 0} → Outcome → (X → Outcome) → Result X Failure → Type 0
LeadsTo o next (Ok x) = o ≡ next x
LeadsTo o next (Err failure) = FailsWith failure o
