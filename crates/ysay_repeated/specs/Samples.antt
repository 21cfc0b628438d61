-- Worked examples: what texts give twice under a module.
use Rattle.std.specs.Prelude.{[], codes}
use Rattle.std.specs.Option.{option_map_or}
use Rattle.std.specs.Result.{result_ok}
use Rattle.yspec.specs.text.Text.{Text}
use Rattle.yspec.specs.text.Statement.{module_of}
use Rattle.yspec.specs.schema.Schema.{Schema}
use Rattle.yspec.specs.linking.Compiling.{schema_of}
use Rattle.yspec.specs.document.Path.{path_text}
use Rattle.yspec.specs.edit.Examples.{module_text}
use Rattle.ysay_repeated.specs.Repeated.{repeated_in}
use Rattle.ysay_repeated.specs.Said.{said_of_repeated}

abbrev pub lines : Text
lines = codes "  container host {\n    leaf name { type string; }\n    leaf-list tag { type string; }\n    list port { key id; leaf id { type uint8; } leaf speed { type uint8; } }\n  }\n"

-- the path of the place, or that there is none
abbrev pub told_of : Schema → Text → Text
told_of schema document = option_map_or (path_text schema) (repeated_in schema document) (codes "none")

-- under a module p of these lines
abbrev pub repeated_under : Text → Text
repeated_under document = option_map_or (λ m. told_of (schema_of m) document) (result_ok (module_of (module_text (codes "p") lines))) []

-- and what is said of it
abbrev pub said_under : Text → Text
said_under document = option_map_or (λ m. option_map_or (said_of_repeated (schema_of m)) (repeated_in (schema_of m) document) [])
    (result_ok (module_of (module_text (codes "p") lines))) []
