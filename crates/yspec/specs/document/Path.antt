-- The text of a path (the form of RFC 7951, 6.11, with positions).
use Rattle.std.specs.Prelude.{ℕ, ◌++◌, List, [], ◌∷◌, codes, decimal, Option, Some, None}
use Rattle.std.specs.Option.{option_map_or}
use Rattle.yspec.specs.text.Text.{Text}
use Rattle.yspec.specs.schema.Schema.{Schema, node_at, written_name}
use Rattle.yspec.specs.document.Document.{Step}

abbrev pub position_text : Option ℕ → Text
position_text None = []
position_text (Some n) = codes "[" ++ (decimal n ++ codes "]")

abbrev pub step_text : Schema → Option ℕ → Step → Text
step_text schema parent step = option_map_or (λ n. codes "/" ++ written_name schema parent n) (node_at schema step.schema_number) []
    ++ position_text step.position

abbrev pub module_after : Schema → Step → Option ℕ
module_after schema step = option_map_or (λ n. Some n.module_number) (node_at schema step.schema_number) None

-- from a node of a module, or from the top
abbrev pub path_from : Schema → Option ℕ → List Step → Text
path_from schema parent [] = []
path_from schema parent (step ∷ steps) =
    step_text schema parent step ++ path_from schema (module_after schema step) steps

-- `/module:name` at the top and where the module changes, else `/name`; the root is `/`
abbrev pub path_text : Schema → List Step → Text
path_text schema [] = codes "/"
path_text schema (step ∷ steps) = path_from schema None (step ∷ steps)
