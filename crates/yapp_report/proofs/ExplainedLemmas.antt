-- The lines of faults with what is said of each, as the parts of a report.
use Rattle.std.proofs.Common.{◌≡◌, ℕ, Bool, true, false, List, [], ◌∷◌, ◌++◌, Option, Some, None, Global, String, string_bytes, length, map, codes, decimal, refl, sym, ap, ap₂, ◌∙◌, arith}
use Rattle.std.specs.Prelude.{IfOk, Result, Ok, Err, if◌then◌else◌, ◌&&◌, not, is_none, is_some}
use Rattle.std.specs.Option.{option_map_or}
use Rattle.std.specs.List.{flat_map}
use Rattle.std.proofs.lemmas.List.{append-nil}
use Rattle.yspec.specs.text.Text.{Text}
use Rattle.yspec.specs.schema.Schema.{Schema}
use Rattle.yspec.specs.document.Document.{Tree}
use Rattle.yspec.specs.document.Fault.{Fault}
use Rattle.yspec.specs.document.Faults.{line_of}
use Rattle.ysay_fault.specs.Sentences.{explained_fault}
use Rattle.yschema_model.specs.View as schema_view
use Rattle.yinst_tree.specs.View.{tree_view}
use Rattle.ycheck.specs.View.{views}
use Rattle.ybase_output.specs.Writing.{Side, Writes}
use Rattle.ybase_output.proofs.WritingLemmas.{writes_same}
use Rattle.yspec_run.specs.Output.{fault_part, printed, report}
use Rattle.yspec_run.specs.Part.{count_part, plain, spelled, spelled_part}
use Rattle.yspec.specs.edit.Live.{fault_count, faults_in}
use Rattle.yapp_report.specs.EditedView.{live_of}
use Rattle.yapp_report.specs.Explained.{HasNoDocument, IsExplained, explained_line, explained_lines, explanations_due, explanations_in, fault_lines}
use Rattle.yapp_report.specs.Failing.{reported}
use Rattle.yapp_report.specs.declared.edited.EditedDocument.{EditedDocument}
use Rattle.yapp_report.specs.declared.failure.Failure.{Failure}
use Rattle.yapp_report.specs.declared.report.Report.{Report}
use Rattle.yapp_report.specs.declared.report.Report.TheVariants as reports
use Rattle.yapp_report.specs.declared.report.DocumentReport.{DocumentReport}
use Rattle.yapp_report.proofs.PartLemmas.{one_part, parts_behind}

plain_lines : (s : Schema) (t : Tree) (faults : List Fault) → flat_map (line_of s) faults ≡ spelled false (map (fault_part s t) faults)
plain_lines s t [] = refl
plain_lines s t (f ∷ faults) = ap₂ (λ (xs ys : Text). xs ++ ys) (sym (append-nil (line_of s f))) (plain_lines s t faults)

told_lines : (s : Schema) (t : Tree) (faults : List Fault)
    → explained_lines s faults (map (explained_fault s t) faults) ≡ spelled true (map (fault_part s t) faults)
told_lines s t [] = refl
told_lines s t (f ∷ faults) = ap (λ (xs : Text). explained_line s f (explained_fault s t f) ++ xs) (told_lines s t faults)

-- how many there are, in words
abbrev pub count_of : Bool → List Fault → Text
count_of with_reasons faults = spelled_part with_reasons (count_part (length faults))

counted : (with_reasons : Bool) (s : Schema) (t : Tree) (faults : List Fault) (lines : Text) → lines ≡ spelled with_reasons (map (fault_part s t) faults)
    → lines ++ count_of with_reasons faults ≡ spelled with_reasons (report s t faults)
counted with_reasons s t faults lines is = ap₂ (λ (xs ys : Text). xs ++ ys) is (one_part with_reasons (count_part (length faults)))
    ∙ sym (parts_behind with_reasons (map (fault_part s t) faults) (count_part (length faults) ∷ []))

-- where a report has what is due, its lines are those of the report
pub lines_due : (with_reasons : Bool) (s : Schema) (t : Tree) (faults : List Fault) (said : Option (List Text))
    → said ≡ (if with_reasons then Some (map (explained_fault s t) faults) else None)
    → fault_lines s faults said ++ count_of with_reasons faults ≡ spelled with_reasons (report s t faults)
lines_due true s t faults said is = counted true s t faults (fault_lines s faults said) (ap (fault_lines s faults) is ∙ told_lines s t faults)
lines_due false s t faults said is = counted false s t faults (fault_lines s faults said) (ap (fault_lines s faults) is ∙ plain_lines s t faults)

-- ---- a list of faults beside what is said of each

pub first_explained : (s : Schema) (f : Fault) (faults : List Fault) (text : Text) (said all : List Text) → all ≡ text ∷ said
    → explained_lines s (f ∷ faults) all ≡ explained_line s f text ++ explained_lines s faults said
first_explained s f faults text said all is = ap (explained_lines s (f ∷ faults)) is

pub none_explained : (s : Schema) (faults : List Fault) (all : List Text) → length all ≡ 0 → explained_lines s faults all ≡ []
none_explained s [] all none = refl
none_explained s (f ∷ faults) [] none = refl
none_explained s (f ∷ faults) (text ∷ all) none = absurd (omega (arith, none))

-- ---- reports without faults

pub nothing_due : (with_reasons : Bool) (r : Result Report Failure) → IfOk r HasNoDocument → IfOk r (IsExplained with_reasons)
nothing_due with_reasons (Ok (reports.Document r)) other = absurd other
nothing_due with_reasons (Ok (reports.Edited e)) other = absurd other
nothing_due with_reasons (Ok (reports.Explanations explanations)) other = tt
nothing_due with_reasons (Ok (reports.Nodes count)) other = tt
nothing_due with_reasons (Ok (reports.Diagram schema shown)) other = tt
nothing_due with_reasons (Ok (reports.Diagrams schema)) other = tt
nothing_due with_reasons (Err failure) other = tt

-- ---- what is printed of a document

abbrev pub document_lines : DocumentReport → Text
document_lines r = fault_lines (schema_view.view r.schema) (views r.faults.items) (explanations_in r)
    ++ count_of (is_some (explanations_in r)) (views r.faults.items)

-- without a text the lines of its faults are what is printed
pub report_lines : {X E : Type 0} → (with_reasons : Bool) (r : DocumentReport) (a b : Side) (result : Result X E) → r.text ≡ None
    → IsExplained with_reasons (reports.Document r) → Writes a b (document_lines r) result
    → Writes a b (printed with_reasons (reported (reports.Document r))).output result
report_lines with_reasons r a b result no_text explained written =
    let s = schema_view.view r.schema in
    let t = tree_view r.tree in
    let faults = views r.faults.items in
    let due = explained ∙ (ap (λ (o : Option (String Global)). if with_reasons && is_none o then Some (explanations_due r) else None) no_text
    ∙ ap (λ (b : Bool). if b then Some (explanations_due r) else None) (and_true with_reasons)) in
    writes_same a b _ _ result
    (ap (λ (b : Bool). fault_lines s faults (explanations_in r) ++ count_of b faults) (ap (λ (o : Option (List Text)). is_some o) due ∙ is_there with_reasons (explanations_due r))
    ∙ lines_due with_reasons s t faults (explanations_in r) due
    ∙ sym (ap (λ (o : Option (String Global)). spelled with_reasons (option_map_or (λ text. plain (string_bytes text ++ codes "\n") ∷ []) o (report s t faults))) no_text))
    written
  where
    is_there : {A : Type 0} → (b : Bool) (x : A) → is_some (if b then Some x else None) ≡ b
    is_there true x = refl
    is_there false x = refl

    and_true : (b : Bool) → (b && true) ≡ b
    and_true true = refl
    and_true false = refl

-- where nothing is said of faults, the lines of those that a walk gives are what is printed
pub walked_lines : (with_reasons : Bool) (e : EditedDocument) (s : Schema) (found : List Fault) (count : ℕ) → with_reasons ≡ false → s ≡ (live_of e).schema
    → found ≡ faults_in (live_of e) → count ≡ fault_count (live_of e)
    → (printed with_reasons (reported (reports.Edited e))).output ≡ flat_map (line_of s) found ++ (decimal count ++ codes " faults\n")
walked_lines with_reasons e s found count unasked schema_is all counted =
    let x = (live_of e).schema in
    let t = (live_of e).tree in
    let faults = faults_in (live_of e) in
    ap (λ (b : Bool). (printed b (reported (reports.Edited e))).output) unasked
    ∙ sym (lines_due false x t faults None refl)
    ∙ (ap (λ (n : ℕ). flat_map (line_of x) faults ++ (decimal n ++ codes " faults\n")) (sym counted)
    ∙ (ap (λ (fs : List Fault). flat_map (line_of x) fs ++ (decimal count ++ codes " faults\n")) (sym all)
    ∙ ap (λ (y : Schema). flat_map (line_of y) found ++ (decimal count ++ codes " faults\n")) (sym schema_is)))

-- ---- tests of options

pub none_so : {A : Type 0} → (o : Option A) (b : Bool) → is_some o ≡ not b → b ≡ is_none o
none_so None true is = refl
none_so None false is = is
none_so (Some x) true is = is
none_so (Some x) false is = refl
