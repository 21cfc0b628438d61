-- Worked examples: modules' texts, and what comes of edits of a document under them.
use Rattle.std.specs.Prelude.{ℕ, List, ◌++◌, [], ◌∷◌, codes, Option, Some, None, option_map, option_and_then, Result, Ok}
use Rattle.std.specs.Result.{result_ok}
use Rattle.yspec.specs.text.Text.{Text}
use Rattle.yspec.specs.text.Statement.{module_of}
use Rattle.yspec.specs.schema.Schema.{Schema}
use Rattle.yspec.specs.linking.Compiling.{schema_of}
use Rattle.yspec.specs.document.Reading.{document_of}
use Rattle.yspec.specs.document.Writing.{written_text}
use Rattle.yspec.specs.document.Document.{Tree, step_to}
use Rattle.yspec.specs.edit.EditText.{Edit, edit_of}
use Rattle.yspec.specs.edit.Editing.{Decision, after, decisions}
use Rattle.yspec.specs.document.Fault.{Fault, plain_fault}
use Rattle.yspec.specs.document.FaultCode.{FaultCode}
use Rattle.yspec.specs.edit.Live.{Checked, CheckRefusal, checked}

-- a module of a name, of which these lines stand from line 5 on
abbrev pub module_text : Text → Text → Text
module_text name lines = codes "module " ++ (name ++ (codes " {\n  yang-version 1.1;\n  namespace \"urn:" ++ (name
    ++ (codes "\";\n  prefix " ++ (name ++ (codes ";\n" ++ (lines ++ codes "}\n")))))))

-- a container of a mandatory number, whose type is given, and a note
abbrev pub container_module : Text → Text
container_module type = module_text (codes "p") (codes "  container c {\n    leaf id { type "
    ++ (type ++ codes "; mandatory true; }\n    leaf note { type string; }\n  }\n"))

abbrev pub module_p : Text
module_p = container_module (codes "uint8")

-- ---- edits

-- a document under module p, and the edits that lines spell
abbrev pub Edited : Type 0
Edited = Option (List Decision × Text)

abbrev pub edits_of : List Text → Option (List Edit)
edits_of [] = Some []
edits_of (line ∷ lines) = option_and_then (λ e. option_map (λ es. e ∷ es) (edits_of lines)) (edit_of line)

abbrev pub edited_tree : Schema → List Text → Tree → Edited
edited_tree schema lines tree =
    option_map (λ edits. (decisions schema tree edits, written_text schema (after schema tree edits))) (edits_of lines)

abbrev pub edited_under : Text → Text → List Text → Edited
edited_under module_bytes document lines = option_and_then (λ m. option_and_then (edited_tree (schema_of m) lines)
    (result_ok (document_of (schema_of m) document))) (result_ok (module_of module_bytes))

-- what comes of each of some edits, and the document behind them
abbrev pub edited : Text → List Text → Edited
edited document lines = edited_under module_p document lines

abbrev pub accepted : Text → Edited
accepted document = Some (None ∷ [], document)

abbrev pub refused_as : ℕ → Text → Edited
refused_as code document = Some (Some (record { code = code; document_code = None }) ∷ [], document)

abbrev pub value_refused_as : ℕ → Text → Edited
value_refused_as code document = Some (Some (record { code = 10; document_code = Some code }) ∷ [], document)

-- what comes of the edits of a document that lines spell, and its faults after them, from the module's text on
abbrev pub checked_lines : Text → Text → List Text → Option (Result Checked CheckRefusal)
checked_lines module_bytes document lines = option_and_then (λ m. option_map (checked m document) (edits_of lines))
    (result_ok (module_of module_bytes))

abbrev pub checked_as : List Decision → List Fault → Option (Result Checked CheckRefusal)
checked_as decisions faults = Some (Ok (record { decisions = decisions; faults = faults }))

-- a fault of module p's number
abbrev pub at_id : FaultCode → Fault
at_id code = plain_fault code (step_to 0 ∷ step_to 1 ∷ [])

-- ---- a module of a list with a key and numbers, a leaf-list and a container, and edits of three of its entries

abbrev pub module_rows : Text
module_rows = module_text (codes "p") (codes "  list l {\n    key k;\n    leaf k { type string; }\n    leaf-list m { type uint8; }\n  }\n  leaf-list t { type string; }\n  container c { }\n")

abbrev one_row : Text → Text
one_row k = codes "{\"k\":\"" ++ (k ++ codes "\"}")

abbrev pub three_rows : Text → Text → Text → Text
three_rows a b c = codes "{\"p:l\":[" ++ (one_row a ++ (codes "," ++ (one_row b ++ (codes "," ++ (one_row c ++ codes "]}")))))

abbrev pub rows_edited : List Text → Edited
rows_edited lines = edited_under module_rows (three_rows (codes "a") (codes "b") (codes "c")) lines

abbrev pub rows_refused : ℕ → Edited
rows_refused code = refused_as code (three_rows (codes "a") (codes "b") (codes "c"))
