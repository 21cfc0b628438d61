-- Schemas without state, and the modules that give a schema to a run.
use Rattle.std.specs.Prelude.{◌≡◌, ◌++◌, ℕ, Bool, true, List, Ok}
use Rattle.std.specs.List.{list_all}
use Rattle.yspec.specs.Forest.{Forest, preorder}
use Rattle.yspec.specs.text.Text.{Text}
use Rattle.yspec.specs.text.Statement.{Statement}
use Rattle.yspec.specs.schema.Schema.{Schema}
use Rattle.yspec_wide.specs.Language.{Language}
use Rattle.yspec_wide.specs.Compiling.{compiled_in}
use Rattle.yspec_run.specs.Output.{Options, Outcome, with_schema}

-- all nodes are configuration
abbrev pub HasNoState : Schema → Type 0
HasNoState schema = list_all (λ n. n.config) (preorder schema.nodes) ≡ true

-- in a language modules whose files have these contents compile to a schema, whichever files follow and whatever is done with them
abbrev pub Give : Language → List Text → List (List ℕ) → Schema → Type 0
Give language names contents schema =
    (files : List (List ℕ)) (next : Schema → List (List ℕ) → Outcome) → with_schema language names (contents ++ files) next ≡ next schema files

-- some schema, of a set that compiles
abbrev pub IsGiven : Language → List Text → List (List ℕ) → Type 0
IsGiven language names contents = (schema : Schema) × ((modules : Forest Statement) × (compiled_in language modules ≡ Ok schema))
    × Give language names contents schema

-- some words of a command line, with `--config` or without
abbrev pub looking : Bool → Options → Options
looking of_configuration options = record options { of_configuration = of_configuration }
