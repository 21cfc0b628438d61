-- What is said of each fault of a report, and the lines that say it.
use Rattle.std.specs.Prelude.{◌≡◌, ◌++◌, ◌&&◌, Bool, false, List, [], ◌∷◌, map, codes, decimal, string_bytes, Option, Some, None, option_map, is_none, if◌then◌else◌}
use Rattle.std.specs.List.{flat_map}
use Rattle.yschema_model.specs.View as schema_view
use Rattle.yinst_tree.specs.View.{tree_view}
use Rattle.ycheck.specs.View.{views}
use Rattle.ysay_codes.specs.Codes.{reason_of}
use Rattle.ysay_fault.specs.Sentences.{explained_fault}
use Rattle.yspec.specs.text.Text.{Text}
use Rattle.yspec.specs.schema.Schema.{Schema}
use Rattle.yspec.specs.document.Fault.{Fault}
use Rattle.yspec.specs.document.FaultCode.{fault_number}
use Rattle.yspec.specs.document.Faults.{line_of}
use Rattle.yapp_report.specs.declared.report.Report.{Report}
use Rattle.yapp_report.specs.declared.report.Report.TheVariants as reports
use Rattle.yapp_report.specs.declared.report.DocumentReport.{DocumentReport}

-- what a report has to say of its faults, where that is to be printed
abbrev pub explanations_in : DocumentReport → Option (List Text)
explanations_in r = option_map (λ texts. map string_bytes texts.items) r.explanations

-- what is to be said of them
abbrev pub explanations_due : DocumentReport → List Text
explanations_due r = map (explained_fault (schema_view.view r.schema) (tree_view r.tree)) (views r.faults.items)

-- a report has no document, and so no faults
abbrev pub HasNoDocument : Report → Type 0
HasNoDocument (reports.Document r) = ⊥
HasNoDocument (reports.Edited e) = ⊥
HasNoDocument (reports.Explanations explanations) = Unit {0}
HasNoDocument (reports.Nodes count) = Unit {0}
HasNoDocument (reports.Diagram schema shown) = Unit {0}
HasNoDocument (reports.Diagrams schema) = Unit {0}

-- where the reasons and the faults are wanted, a report has what is said of these; of a live document's nothing is said
abbrev pub IsExplained : Bool → Report → Type 0
IsExplained with_reasons (reports.Document r) =
    explanations_in r ≡ (if with_reasons && is_none r.text then Some (explanations_due r) else None)
IsExplained with_reasons (reports.Edited e) = with_reasons ≡ false
IsExplained with_reasons (reports.Explanations explanations) = Unit {0}
IsExplained with_reasons (reports.Nodes count) = Unit {0}
IsExplained with_reasons (reports.Diagram schema shown) = Unit {0}
IsExplained with_reasons (reports.Diagrams schema) = Unit {0}

-- ---- lines

-- a fault's line, what is said of the fault, and why its code is told
abbrev pub explained_line : Schema → Fault → Text → Text
explained_line schema f said = line_of schema f ++ (said ++ reason_of (codes "V" ++ decimal (fault_number f.code)))

-- those of several faults, with what is said of each
abbrev pub explained_lines : Schema → List Fault → List Text → Text
explained_lines schema [] said = []
explained_lines schema (f ∷ faults) [] = []
explained_lines schema (f ∷ faults) (text ∷ said) = explained_line schema f text ++ explained_lines schema faults said

-- the lines of faults, of which this is said if anything is
abbrev pub fault_lines : Schema → List Fault → Option (List Text) → Text
fault_lines schema faults None = flat_map (line_of schema) faults
fault_lines schema faults (Some said) = explained_lines schema faults said
