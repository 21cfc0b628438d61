-- Worked examples: a document of three entries, the second of which lacks its number, one of two hosts, whose state isn't stored, and
-- what lines are answered.
use Rattle.std.specs.Prelude.{ℕ, Bool, true, false, List, [], ◌∷◌, codes, Option, None, option_map, option_and_then}
use Rattle.std.specs.Result.{result_ok}
use Rattle.yspec.specs.text.Text.{Text}
use Rattle.yspec.specs.text.Statement.{module_of}
use Rattle.yspec.specs.linking.Compiling.{schema_of}
use Rattle.yspec.specs.document.Document.{step_to, step_at}
use Rattle.yspec.specs.document.Reading.{document_of}
use Rattle.yspec.specs.document.FaultCode.{V3, V12}
use Rattle.yspec.specs.document.Fault.{Fault, plain_fault}
use Rattle.yspec.specs.edit.Examples.{module_text}
use Rattle.yspec_session.specs.Carrying.{Turn, closed_up}
use Rattle.yspec_session.specs.Session.{Answer, changed, refused, configured_by, edit_refused, opened}
use Rattle.yspec_session.specs.Requests.{replies}

abbrev pub module_l : Text
module_l = module_text (codes "p") (codes "  list l {\n    key k;\n    leaf k { type string; }\n    leaf m { type uint8; mandatory true; }\n  }\n  container c {\n    leaf y { type uint8; }\n  }\n")

abbrev pub three_entries : Text
three_entries = codes "{\"p:l\":[{\"k\":\"a\",\"m\":1},{\"k\":\"b\"},{\"k\":\"c\",\"m\":3}]}"

-- the answers to lines of a session over a document under a module, where two edits can be taken back
abbrev pub talk_over : Bool → Text → Text → List Text → Option (List Answer)
talk_over of_configuration module_bytes document lines = option_and_then (λ m.
    option_map (λ tree. replies (configured_by of_configuration (schema_of m)) (schema_of m) 2 (opened tree) lines)
    (result_ok (document_of (schema_of m) document))) (result_ok (module_of module_bytes))

abbrev pub talk : List Text → Option (List Answer)
talk lines = talk_over false module_l three_entries lines

-- an entry at a position lacks its number
abbrev pub lacks : ℕ → Fault
lacks position = plain_fault V3 (step_at 0 position ∷ step_to 2 ∷ [])

abbrev pub becomes : ℕ → ℕ → List Fault → List Fault → Answer
becomes before after told gone = changed before after (record { told = told; gone = gone })

abbrev pub code_refused : ℕ → Answer
code_refused code = refused (edit_refused (record { code = code; document_code = None }))

-- ---- configuration alone

abbrev pub module_s : Text
module_s = module_text (codes "s") (codes "  list host {\n    key name;\n    leaf name { type string; }\n    leaf up { type boolean; config false; mandatory true; }\n    leaf id { type uint8; mandatory true; }\n  }\n")

abbrev pub two_hosts : Text
two_hosts = codes "{\"s:host\":[{\"name\":\"a\"},{\"name\":\"b\",\"id\":1}]}"

abbrev pub talk_of_all : List Text → Option (List Answer)
talk_of_all lines = talk_over false module_s two_hosts lines

abbrev pub talk_of_configuration : List Text → Option (List Answer)
talk_of_configuration lines = talk_over true module_s two_hosts lines

-- a host at a position isn't said to be up, lacks its number, or is said to be up where that is state
abbrev pub lacks_up : ℕ → Fault
lacks_up position = plain_fault V3 (step_at 0 position ∷ step_to 2 ∷ [])

abbrev pub lacks_id : ℕ → Fault
lacks_id position = plain_fault V3 (step_at 0 position ∷ step_to 3 ∷ [])

abbrev pub has_up : ℕ → Fault
has_up position = plain_fault V12 (step_at 0 position ∷ step_to 2 ∷ [])

-- ---- turns

-- the first entry is gone
abbrev pub first_gone : List Turn
first_gone = record { above = []; number = 0; position = closed_up 1 } ∷ []
