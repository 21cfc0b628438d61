-- What prefixed names of schema nodes mean (RFC 7950, 5.1.3 and 6.4), and prefixes that no module declares.
use Rattle.std.specs.Prelude.{ℕ, Bool, false, not, List, [], ◌∷◌, Option, Some, is_some, unwrap_or}
use Rattle.std.specs.List.{list_any, flat_map}
use Rattle.std.specs.Option.{option_map_or}
use Rattle.yspec.specs.Forest.{Forest, preorder}
use Rattle.yspec.specs.text.Text.{Text}
use Rattle.yspec.specs.linking.Keyword.{Keyword}
use Rattle.yspec.specs.linking.Keyword as word
use Rattle.yspec.specs.linking.Arguments.{Name, name_of, key_of, unique_of, leafref_path_of, relative_path_of, absolute_path_of}
use Rattle.yspec.specs.linking.Source.{Source, argument_in}
use Rattle.yspec.specs.linking.Imports.{prefix_declared, module_meant}
use Rattle.yspec.specs.schema.Breaks.{Break, broken, when}

-- the name of a schema node: the number of its module, where the prefix names one, and its identifier
pub record NodeName : Type 0 where
  pub module_number : Option ℕ
  pub name : Text

-- a name as it stands in a module; one without a prefix is of a module that is given
abbrev pub node_name : Forest Source → ℕ → ℕ → Name → NodeName
node_name modules home plain n = record {
  module_number = option_map_or (module_meant modules home) n.prefix (Some plain);
  name = n.identifier;
}

-- ---- C6: prefixes that are declared nowhere in the module

abbrev pub is_unknown_prefix : Forest Source → ℕ → Name → Bool
is_unknown_prefix modules home n = option_map_or (λ prefix. not (is_some (prefix_declared modules home prefix))) n.prefix false

-- the names that a statement has as its argument
abbrev pub names_given : Keyword → Text → List Name
names_given word.type_word t = option_map_or (λ n. n ∷ []) (name_of t) []
names_given word.key_word t = unwrap_or (key_of t) []
names_given word.unique_word t = flat_map (λ path. path) (unwrap_or (unique_of t) [])
names_given word.path_word t = unwrap_or (leafref_path_of t) []
names_given word.uses_word t = option_map_or (λ n. n ∷ []) (name_of t) []
names_given word.base_word t = option_map_or (λ n. n ∷ []) (name_of t) []
names_given word.refine_word t = unwrap_or (relative_path_of t) []
names_given word.augment_word t = unwrap_or (absolute_path_of t) []
names_given _ t = []

abbrev pub has_unknown_prefix : Forest Source → Source → Bool
has_unknown_prefix modules s =
    list_any (is_unknown_prefix modules s.home) (names_given s.keyword (argument_in s))

abbrev pub prefix_break : Forest Source → Source → List Break
prefix_break modules s = when (has_unknown_prefix modules s) (broken 6 s.home s.statement.line)

abbrev pub prefix_breaks : Forest Source → List Break
prefix_breaks modules = flat_map (prefix_break modules) (preorder modules)
