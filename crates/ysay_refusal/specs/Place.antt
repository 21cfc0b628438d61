-- What stands in a JSON value where steps lead, and under which node of the schema.
use Rattle.std.specs.Prelude.{ℕ, ◌-◌, List, [], ◌∷◌, Option, Some, None, option_and_then, option_map}
use Rattle.std.specs.List.{last_or}
use Rattle.serde_json.specs.Data.{Data}
use Rattle.serde_json.specs.Find.{at, get}
use Rattle.yspec.specs.schema.Schema.{Schema, node_at, written_name}
use Rattle.yspec.specs.document.Document.{Step}
use Rattle.yspec.specs.document.Path.{module_after}

-- the value of a node, or of the entry or item at a position, from 1
abbrev pub instance_at : Option ℕ → Data → Option Data
instance_at None d = Some d
instance_at (Some position) d = at (position - 1) d

-- the value to which a step leads from that of a node of a module, or from the top
abbrev pub value_below : Schema → Option ℕ → Step → Data → Option Data
value_below schema parent step d = option_and_then (instance_at step.position)
    (option_and_then (λ n. get (written_name schema parent n) d) (node_at schema step.schema_number))

abbrev pub value_from : Schema → Option ℕ → List Step → Data → Option Data
value_from schema parent [] d = Some d
value_from schema parent (step ∷ steps) d =
    option_and_then (value_from schema (module_after schema step) steps) (value_below schema parent step d)

-- the value at a place
abbrev pub value_at : Schema → List Step → Data → Option Data
value_at schema steps d = value_from schema None steps d

-- the last step to a place; no step leads to the top
abbrev pub last_step : List Step → Option Step
last_step = last_or None

-- the number of the node to which a step leads
abbrev pub number_after : Option Step → Option ℕ
number_after step = option_map (λ s. s.schema_number) step
