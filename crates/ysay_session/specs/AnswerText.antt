-- What a session answers a line, as the text of an object of JSON without a line feed.
use Rattle.std.specs.Prelude.{ℕ, ◌++◌, List, [], ◌∷◌, codes, decimal, Option, Some, None}
use Rattle.std.specs.List.{flat_map}
use Rattle.serde_json.specs.Data.{string}
use Rattle.serde_json.specs.Written.{compact_text}
use Rattle.yspec.specs.text.Text.{Text}
use Rattle.yspec.specs.schema.Schema.{Schema}
use Rattle.yspec.specs.document.Document.{Tree}
use Rattle.yspec.specs.document.Fault.{Fault}
use Rattle.yspec.specs.document.Writing.{written_text}
use Rattle.yspec.specs.edit.Editing.{EditRefusal, Branch}
use Rattle.yspec_session.specs.Carrying.{Difference}
use Rattle.yinst_tree.specs.Written.{stored_text}
use Rattle.ysay_json.specs.FaultData.{json_line}
use Rattle.yspec_run.specs.RefusalData.{cause_of}
use Rattle.yspec_run.specs.Script.{telling_code}

-- ---- of edits

abbrev pub changed_text : ℕ → ℕ → Text
changed_text before after = codes "{\"before\":" ++ (decimal before ++ (codes ",\"after\":" ++ (decimal after ++ codes "}")))

-- the code of a value that doesn't fit
abbrev pub document_member : Option ℕ → Text
document_member None = []
document_member (Some code) = codes "\"document\":\"J" ++ (decimal code ++ codes "\",")

-- why an edit is refused, by the cause of the code that says most
abbrev pub edit_refused_text : EditRefusal → Text
edit_refused_text e = codes "{\"refused\":\"E" ++ (decimal e.code ++ (codes "\"," ++ (document_member e.document_code
    ++ (codes "\"message\":" ++ (compact_text (string (cause_of (telling_code e))) ++ codes "}")))))

-- ---- of faults

-- objects behind commas
abbrev pub more_text : Schema → Tree → List Fault → Text
more_text schema tree faults = flat_map (λ f. codes "," ++ json_line schema tree f) faults

-- objects with commas between them
abbrev pub items_text : Schema → Tree → List Fault → Text
items_text schema tree [] = []
items_text schema tree (f ∷ faults) = json_line schema tree f ++ more_text schema tree faults

-- some faults, and how many there are of all
abbrev pub listed_text : Schema → Tree → List Fault → ℕ → Text
listed_text schema tree faults count = codes "{\"faults\":[" ++ (items_text schema tree faults
    ++ (codes "],\"count\":" ++ (decimal count ++ codes "}")))

-- how many faults there were and are, those that are new with the later document, and those that are gone with the earlier one
abbrev pub changes_text : Schema → Tree → Tree → ℕ → ℕ → Difference → Text
changes_text schema earlier later before after d = codes "{\"before\":" ++ (decimal before ++ (codes ",\"after\":" ++ (decimal after
    ++ (codes ",\"told\":[" ++ (items_text schema later d.told ++ (codes "],\"gone\":[" ++ (items_text schema earlier d.gone ++ codes "]}")))))))

-- ---- of documents

abbrev pub document_text : Schema → Tree → Text
document_text schema tree = codes "{\"document\":" ++ (written_text schema tree ++ codes "}")

-- of a stored node with all that stands below it
abbrev pub value_text : Schema → Branch → Text
value_text schema b = codes "{\"value\":" ++ (stored_text schema b.label b.below ++ codes "}")

-- ---- of other requests

abbrev pub done_text : Text
done_text = codes "{\"done\":true}"

abbrev pub nothing_text : Text
nothing_text = codes "{\"refused\":\"undo\",\"message\":\"Nothing is remembered.\"}"

abbrev pub begun_text : Text
begun_text = codes "{\"refused\":\"begin\",\"message\":\"Edits together have begun.\"}"

abbrev pub not_begun_text : Text
not_begun_text = codes "{\"refused\":\"end\",\"message\":\"No edits together have begun.\"}"

abbrev pub not_understood_text : Text
not_understood_text = codes "{\"refused\":\"E1\",\"message\":\"The line is no request.\"}"

-- of a request that isn't served
abbrev pub unserved_text : Text
unserved_text = codes "{\"refused\":\"E1\",\"message\":\"The request isn't served.\"}"

-- memory ran out, and all is as it was
abbrev pub short_text : Text
short_text = codes "{\"refused\":\"E12\",\"message\":\"Memory ran out.\"}"
