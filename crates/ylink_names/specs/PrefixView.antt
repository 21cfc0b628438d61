-- What prefixes stand for, and names of schema nodes, as the specification's.
use Rattle.std.specs.Prelude.{◌≡◌, ℕ, ◌&&◌, List, Option, Some, None, option_map, option_and_then, slice_get, if◌then◌else◌}
use Rattle.yspec.specs.Forest.{Forest}
use Rattle.yspec.specs.text.Text.{Text}
use Rattle.yspec.specs.linking.Keyword.{import_word}
use Rattle.yspec.specs.linking.Prefixes as spec
use Rattle.yspec.specs.linking.Imports.{has_prefix, imported_as, module_called, prefix_declared}
use Rattle.yspec.specs.linking.Source.{Source, is_source_of, argument_in}
use Rattle.ylink_names.specs.FirstNamedView.{named}
use Rattle.ylink_names.specs.declared.first_named.FirstNamed.{FirstNamed}
use Rattle.ylink_names.specs.declared.prefix.Prefixes.{Prefixes}
use Rattle.ylink_names.specs.declared.prefix.NodeName.{NodeName}

-- each name has the number of the module that it names
abbrev pub AreModulesOf : FirstNamed ℕ → Forest Source → Type 0
AreModulesOf places modules = (name : Text) → named places name ≡ module_called modules name

-- what an import declares a prefix to stand for
abbrev pub imported_by : Forest Source → Text → Source → Forest Source → Option (Option ℕ)
imported_by modules prefix s below =
    if is_source_of import_word s && has_prefix prefix below then Some (module_called modules (argument_in s)) else None

-- what the row of a module declares a prefix to stand for
abbrev pub declared_by : Forest Source → ℕ → Text → Forest Source → Option (Option ℕ)
declared_by modules home prefix body = if has_prefix prefix body then Some (Some home)
    else option_map (module_called modules) (imported_as prefix body)

-- what a prefix stands for in a module, by the prefixes that are held
abbrev pub declared_at : List (FirstNamed (Option ℕ)) → ℕ → Text → Option (Option ℕ)
declared_at declared home prefix = option_and_then (λ table. named table prefix) (slice_get declared home)

abbrev pub declared_in : Prefixes → ℕ → Text → Option (Option ℕ)
declared_in prefixes home prefix = declared_at prefixes.declared.items home prefix

-- each prefix stands in each of some modules for what it is declared to be there
abbrev pub IsOf : Prefixes → Forest Source → Type 0
IsOf prefixes modules = (home : ℕ) (prefix : Text) → declared_in prefixes home prefix ≡ prefix_declared modules home prefix

abbrev pub node_name_view : NodeName → spec.NodeName
node_name_view n = record { module_number = n.«module»; name = n.name.now }
