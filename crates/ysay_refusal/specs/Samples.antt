-- Documents that are refused under a module, and what is said of them.
use Rattle.std.specs.Prelude.{ℕ, [], codes, List, Result, Ok, Err}
use Rattle.std.specs.Option.{option_map_or}
use Rattle.yspec.specs.text.Text.{Text}
use Rattle.yspec.specs.text.Statement.{module_of}
use Rattle.std.specs.Result.{result_ok}
use Rattle.yspec.specs.schema.Schema.{Schema}
use Rattle.yspec.specs.linking.Compiling.{schema_of}
use Rattle.yspec.specs.document.Document.{Tree}
use Rattle.yspec.specs.document.Reading.{Refusal, document_of}
use Rattle.yspec.specs.edit.Examples.{module_text}
use Rattle.ysay_refusal.specs.Sentence.{said_of_refusal}

abbrev pub said_of : Schema → List ℕ → Result Tree Refusal → Text
said_of schema bytes (Ok tree) = codes "read"
said_of schema bytes (Err r) = said_of_refusal schema bytes r

abbrev pub lines : Text
lines = codes "  container host {\n    leaf name { type string; }\n    leaf-list tag { type string; }\n    list port { key id; leaf id { type uint8; } leaf speed { type uint8; } }\n  }\n"

-- what is said of a document under a module p of these lines
abbrev pub said_under : Text → Text
said_under document = option_map_or (λ m. said_of (schema_of m) document (document_of (schema_of m) document))
    (result_ok (module_of (module_text (codes "p") lines))) []
