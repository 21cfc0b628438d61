-- Worked examples: where values stand in texts under a module.
use Rattle.std.specs.Prelude.{ℕ, List, codes}
use Rattle.std.specs.Option.{option_map_or}
use Rattle.std.specs.Result.{result_ok}
use Rattle.yspec.specs.text.Text.{Text}
use Rattle.yspec.specs.text.Statement.{module_of}
use Rattle.yspec.specs.linking.Compiling.{schema_of}
use Rattle.yspec.specs.document.Document.{Step, step_at, step_to}
use Rattle.yspec.specs.edit.Examples.{module_text}
use Rattle.ysay_repeated.specs.Samples as repeated
use Rattle.ysay_lines.specs.Lines.{at_line, place_in}
use Rattle.ysay_lines.specs.declared.place.Place.{Place}

-- where in a document, under a module p of a container
abbrev pub place_under : Text → List Step → Place
place_under document place = option_map_or (λ m. place_in (schema_of m) document place)
    (result_ok (module_of (module_text (codes "p") repeated.lines))) (at_line 0 0)

-- ---- its nodes

abbrev pub host : Step
host = step_to 0

abbrev pub name : Step
name = step_to 1

abbrev pub tags : Step
tags = step_to 2

abbrev pub tag : ℕ → Step
tag position = step_at 2 position

abbrev pub ports : Step
ports = step_to 3

abbrev pub port : ℕ → Step
port position = step_at 3 position

abbrev pub id : Step
id = step_to 4

abbrev pub speed : Step
speed = step_to 5
