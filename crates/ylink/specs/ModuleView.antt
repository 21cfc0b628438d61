-- Modules of a set, and the prefixes that they declare.
use Rattle.std.specs.Prelude.{ℕ, zero, suc, List, [], ◌∷◌, Option, Some, None, if◌then◌else◌}
use Rattle.std.specs.Option.{option_map_or}
use Rattle.yspec.specs.Forest.{Forest, end, node}
use Rattle.yspec.specs.text.Text.{Text}
use Rattle.yspec.specs.linking.Keyword.{prefix_word, import_word}
use Rattle.yspec.specs.linking.Source.{Source, is_source_of, argument_in, argument_with}

-- the `module` statement of a number, with what stands below it
abbrev pub module_in : Forest Source → ℕ → Option (Source × Forest Source)
module_in end number = None
module_in (node s below after) zero = Some (s, below)
module_in (node s below after) (suc number) = module_in after number

-- the prefix that a statement declares in a module of a name, with the module for which it stands
abbrev pub declared_by : Text → Source × Forest Source → List (Text × Text)
declared_by own s = if is_source_of prefix_word s.0 then (argument_in s.0, own) ∷ []
    else (if is_source_of import_word s.0
    then option_map_or (λ prefix. (prefix, argument_in s.0) ∷ []) (argument_with prefix_word s.1) [] else [])
