-- What is said of a member that is given twice, by the place of its node.
use Rattle.std.specs.Prelude.{◌++◌, List, [], codes, None, option_and_then}
use Rattle.std.specs.List.{last_or}
use Rattle.std.specs.Option.{option_map_or}
use Rattle.yspec.specs.text.Text.{Text}
use Rattle.yspec.specs.schema.Schema.{Schema, node_at}
use Rattle.yspec.specs.document.Document.{Step}

-- the name of the node to which the last step leads
abbrev pub name_at : Schema → List Step → Text
name_at schema place =
    option_map_or (λ n. n.name) (option_and_then (λ step. node_at schema step.schema_number) (last_or None place)) []

abbrev pub said_of_repeated : Schema → List Step → Text
said_of_repeated schema place = name_at schema place ++ codes " is given twice."
