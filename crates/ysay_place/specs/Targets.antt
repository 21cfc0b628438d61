-- The node to which a leafref refers, and the way to it (RFC 7950, 9.9.2).
use Rattle.std.specs.Prelude.{ℕ, List, codes, map, Option}
use Rattle.std.specs.Option.{option_map_or}
use Rattle.yspec.specs.text.Text.{Text}
use Rattle.yspec.specs.schema.Schema.{Schema, SchemaNode, data_way_to}
use Rattle.yspec.specs.document.Document.{Step, step_to}
use Rattle.yspec.specs.document.Path.{path_text}

abbrev pub steps_of : List SchemaNode → List Step
steps_of nodes = map (λ n. step_to n.number) nodes

-- the path of the node to which a leafref refers, through data nodes alone
abbrev pub target_path : Schema → Option ℕ → Text
target_path schema target =
    option_map_or (λ number. path_text schema (steps_of (data_way_to schema number))) target (codes "its target")
