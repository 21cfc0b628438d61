-- Identities: which derive from which (RFC 7950, 7.18 and 9.10), and what modules call them.
use Rattle.std.specs.Prelude.{ℕ, ℤ, pos, Bool, List, [], ◌∷◌, ◌++◌, map, filter, slice_get, if◌then◌else◌}
use Rattle.std.specs.List.{list_all, filter_map}
use Rattle.std.specs.Option.{option_map_or}
use Rattle.yspec.specs.Forest.{Forest, end, node, row}
use Rattle.yspec.specs.text.Text.{Text}
use Rattle.yspec.specs.types.Names.{Assigned}
use Rattle.yspec.specs.types.Identities.{identity_name, ModuleNames}
use Rattle.yspec.specs.types.Types.{YangType, plain, identity_base}
use Rattle.yspec.specs.linking.Keyword as word
use Rattle.yspec.specs.linking.Source.{Source, is_source_of, argument_in, argument_with, all_with}
use Rattle.yspec.specs.linking.Imports.{body_at}
use Rattle.yspec.specs.linking.Scopes.{Placed, statements_of, number_named}
use Rattle.yspec.specs.linking.Graph.{is_among, behind}
use Rattle.yspec.specs.linking.Circles.{definition_edges}

-- ---- what modules are called

-- the name of the module of a number in the set
abbrev pub module_name : Forest Source → ℕ → Text
module_name modules number = option_map_or argument_in (slice_get (row modules) number) []

-- the prefixes that a row of a module of a name declares, with the modules for which they stand
abbrev pub prefixed_in : Text → Forest Source → List (Text × Text)
prefixed_in own end = []
prefixed_in own (node s below after) = (if is_source_of word.prefix_word s then (argument_in s, own) ∷ []
    else (if is_source_of word.import_word s then option_map_or (λ prefix. (prefix, argument_in s) ∷ []) (argument_with word.prefix_word below) []
    else [])) ++ prefixed_in own after

-- what the module of a number calls itself and others
abbrev pub names_of : Forest Source → ℕ → ModuleNames
names_of modules number = record {
  own = module_name modules number;
  prefixed = prefixed_in (module_name modules number) (body_at modules number);
}

-- ---- derivation

-- the numbers of the identities that the `base` statements of a row name
abbrev pub bases_in : Forest Source → Forest Source → List ℕ
bases_in modules below = filter_map (λ s. number_named modules s.number) (all_with word.base_word below)

-- Whether an identity derives from another: whether that is a base of it, or of one to which its bases lead. No identity is its
-- own base, directly or through others, so none derives from itself.
abbrev pub derives : Forest Source → Placed → ℕ → Bool
derives modules p base = is_among (behind (definition_edges modules) p.source.number) base

abbrev pub is_identity : Placed → Bool
is_identity p = is_source_of word.identity_word p.source

abbrev pub identities_of : Forest Source → List Placed
identities_of modules = filter is_identity (statements_of modules)

-- ---- identities as values

abbrev pub assigned_identity : Forest Source → Placed → Assigned
assigned_identity modules p = record { name = identity_name (module_name modules p.source.home) (argument_in p.source); number = pos p.source.number }

-- the numbers of the identities that derive from all of some
abbrev pub numbers_derived : Forest Source → List ℕ → List ℤ
numbers_derived modules bases = map (λ p. pos p.source.number) (filter (λ p. list_all (derives modules p) bases) (identities_of modules))

-- the type of an identityref in a module, with these bases (RFC 7950, 9.10)
abbrev pub identity_type : Forest Source → ℕ → List ℕ → YangType
identity_type modules home bases =
    plain (identity_base (module_name modules home) (map (assigned_identity modules) (identities_of modules)) (numbers_derived modules bases))
