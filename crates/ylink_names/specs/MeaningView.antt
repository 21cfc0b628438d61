-- What names of types, groupings and identities mean, by numbers.
use Rattle.std.specs.Prelude.{◌≡◌, ℕ, ◌&&◌, Bool, not, is_some, map, List, Option, option_map, option_and_then, slice_get}
use Rattle.yspec.specs.Forest.{Forest, row}
use Rattle.yspec.specs.text.Text.{Text}
use Rattle.yspec.specs.linking.Arguments.{name_of}
use Rattle.yspec.specs.linking.Keyword.{Keyword}
use Rattle.yspec.specs.linking.Source.{Source, argument_in}
use Rattle.yspec.specs.linking.Scopes.{Placed, statements_of, kind_named, names_built_in, definition_named, meaning}
use Rattle.yspec.specs.schema.Breaks.{Break, broken, when}
use Rattle.ylink_names.specs.declared.definitions.Definitions.{Definitions}
use Rattle.ylink_names.specs.declared.definitions.DefinitionKind.{DefinitionKind}
use Rattle.ylink_names.specs.declared.meanings.NamedModules.{NamedModules}
use Rattle.ylink_names.specs.PrefixView.{IsOf}
use Rattle.ylink_names.specs.DefinitionView.{first_in, first_number, kind_word}
use Rattle.ylink_names.specs.PlaceView.{by_place}

-- the numbers of definitions
abbrev pub numbered : Option Source → Option ℕ
numbered = option_map (λ d. d.number)

-- the number of the typedef, grouping or identity that a statement names
abbrev pub number_meant : Forest Source → Placed → Option ℕ
number_meant modules p = numbered (meaning modules p)

-- the number of the definition of a kind that the argument of a statement names
abbrev pub named_in : Forest Source → Keyword → Placed → Option ℕ
named_in modules kind p = numbered (option_and_then (definition_named modules kind p) (name_of (argument_in p.source)))

-- the number of the definition of a kind and name at the top of a module, from what stands below it
abbrev pub top_number : DefinitionKind → Text → ℕ → Forest Source → Option ℕ
top_number kind name place f = first_number (kind_word kind) name (row f)

-- the definitions are those at the top of modules, one after another
abbrev pub AreTopsOf : List Definitions → Forest Source → Type 0
AreTopsOf ds modules = (kind : DefinitionKind) (name : Text) → map (λ d. first_in kind d name) ds ≡ by_place (top_number kind name) 0 modules

-- the definition of a kind and name at the top of the module of a number
abbrev pub top_in : List Definitions → ℕ → DefinitionKind → Text → Option ℕ
top_in tops home kind name = option_and_then (λ d. first_in kind d name) (slice_get tops home)

-- they are the modules of a set
abbrev pub AreModules : NamedModules → Forest Source → Type 0
AreModules m modules = IsOf m.prefixes.now modules × AreTopsOf m.tops.items modules

-- what the table holds of a statement, by its number
abbrev pub meaning_at : List (Option ℕ) → ℕ → Option ℕ
meaning_at meanings number = option_and_then (λ m. m) (slice_get meanings number)

-- whether the name is lost of a statement that means that
abbrev pub is_lost_by : Source → Option ℕ → Bool
is_lost_by s m = is_some (kind_named s.keyword) && (not (names_built_in s) && not (is_some m))

abbrev pub lost_by : Source → Option ℕ → List Break
lost_by s m = when (is_lost_by s m) (broken 8 s.home s.statement.line)

-- the table holds what each statement of a set means
abbrev pub AreMeanings : List (Option ℕ) → Forest Source → Type 0
AreMeanings meanings modules = meanings ≡ map (number_meant modules) (statements_of modules)
