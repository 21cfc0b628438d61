-- Edits that are refused under a module, and what is said of them.
use Rattle.std.specs.Prelude.{ℕ, [], codes}
use Rattle.std.specs.Option.{option_map_or}
use Rattle.yspec.specs.text.Text.{Text}
use Rattle.yspec.specs.text.Statement.{module_of}
use Rattle.std.specs.Result.{result_ok}
use Rattle.yspec.specs.Forest.{end}
use Rattle.yspec.specs.schema.Schema.{Schema}
use Rattle.yspec.specs.document.Document.{Tree}
use Rattle.yspec.specs.document.Reading.{document_of}
use Rattle.yspec.specs.linking.Compiling.{schema_of}
use Rattle.yspec.specs.edit.EditText.{edit_of}
use Rattle.yspec.specs.edit.Examples.{module_text}
use Rattle.ysay_edit.specs.Part.{said_of_edit}
use Rattle.ysay_refusal.specs.Samples.{lines}

-- what is said under a module p of some lines of the edit that a text spells, where it is refused with this number and nothing
-- is stored
abbrev pub edit_in : Text → ℕ → Text → Text
edit_in lines code text = option_map_or (λ m. option_map_or (λ e. said_of_edit (schema_of m) end e code) (edit_of text) [])
    (result_ok (module_of (module_text (codes "p") lines))) []

abbrev pub said_on : Schema → Tree → Text → Text
said_on schema now text = option_map_or (λ e. said_of_edit schema now e 4) (edit_of text) []

abbrev pub stored_lines : Text
stored_lines = codes "  container host {\n    leaf name { type string; }\n    container clock { leaf zone { type string; } }\n    leaf-list tag { type string; }\n    list port { key id; leaf id { type uint8; } leaf speed { type uint8; } }\n    list user { key name; leaf name { type string; } leaf role { type string; } }\n  }\n"

abbrev pub stored_text : Text
stored_text = codes "{\"p:host\":{\"name\":\"a\",\"tag\":[\"x\",\"y\"],\"port\":[{\"id\":1},{\"id\":2},{\"id\":2}],\"user\":[{\"name\":\"anna\"}]}}"

-- what is said of an edit that is refused by what is stored, where this document stands now
abbrev pub edit_on : Text → Text → Text
edit_on document text = option_map_or (λ m. option_map_or (λ tree. said_on (schema_of m) tree text)
    (result_ok (document_of (schema_of m) document)) []) (result_ok (module_of (module_text (codes "p") stored_lines))) []

abbrev pub edit_now : Text → Text
edit_now = edit_on stored_text

abbrev pub edit_under : ℕ → Text → Text
edit_under = edit_in lines

abbrev pub choice_lines : Text
choice_lines = codes "  container wan {\n    choice address {\n      case fixed { leaf static { type uint8; } choice family { leaf old { type uint8; } } }\n      leaf dhcp { type uint8; }\n    }\n  }\n"

abbrev pub edit_with_choice : Text → Text
edit_with_choice = edit_in choice_lines 2
