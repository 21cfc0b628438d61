-- The definitions of rows, by kind and name.
use Rattle.std.specs.Prelude.{◌≡◌, ℕ, List, Option, None, find, option_map, option_and_then, reverse}
use Rattle.yspec.specs.Forest.{Forest, row, first_of}
use Rattle.yspec.specs.text.Text.{Text}
use Rattle.yspec.specs.linking.Keyword.{Keyword, typedef_word, grouping_word, identity_word}
use Rattle.yspec.specs.linking.Source.{Source}
use Rattle.yspec.specs.linking.Scopes.{defines, around}
use Rattle.ylink_names.specs.FirstNamedView.{named}
use Rattle.ylink_names.specs.declared.first_named.FirstNamed.{FirstNamed}
use Rattle.ylink_names.specs.declared.definitions.Definitions.{Definitions}
use Rattle.ylink_names.specs.declared.definitions.DefinitionKind.{DefinitionKind}
use Rattle.ylink_names.specs.declared.definitions.DefinitionKind.TheVariants.{Typedef, Grouping, Identity}
use Rattle.ylink_names.specs.declared.definitions.Scope.{Scope, Top, Below'}

abbrev pub kind_word : DefinitionKind → Keyword
kind_word Typedef = typedef_word
kind_word Grouping = grouping_word
kind_word Identity = identity_word

-- the number of the first of some statements that defines a name
abbrev pub first_number : Keyword → Text → List Source → Option ℕ
first_number k name statements = option_map (λ s. s.number) (find (defines k name) statements)

-- the numbers are those of the first statements with a keyword that have their names
abbrev pub AreFirst : FirstNamed ℕ → Keyword → List Source → Type 0
AreFirst names k statements = (name : Text) → named names name ≡ first_number k name statements

abbrev pub first_in : DefinitionKind → Definitions → Text → Option ℕ
first_in Typedef d = named d.typedefs
first_in Grouping d = named d.groupings
first_in Identity d = named d.identities

-- the definitions are those of a row
abbrev pub AreOf : Definitions → Forest Source → Type 0
AreOf d f = (kind : DefinitionKind) (name : Text) → first_in kind d name ≡ first_number (kind_word kind) name (row f)

-- the same of a row that may have none
abbrev pub first_within : DefinitionKind → Option Definitions → Text → Option ℕ
first_within kind d name = option_and_then (λ d. first_in kind d name) d

abbrev pub AreIn : Option Definitions → Forest Source → Type 0
AreIn d f = (kind : DefinitionKind) (name : Text) → first_within kind d name ≡ first_number (kind_word kind) name (row f)

-- the innermost definition of a kind and name, and the outermost one
abbrev pub innermost_in : DefinitionKind → Scope → Text → Option ℕ
innermost_in kind Top name = None
innermost_in kind (Below' definitions p above) name = first_of (first_in kind definitions.now name) (innermost_in kind above name)

abbrev pub outermost_in : DefinitionKind → Scope → Text → Option ℕ
outermost_in kind Top name = None
outermost_in kind (Below' definitions p above) name = first_of (outermost_in kind above name) (first_in kind definitions.now name)

-- the scope is that of a statement with some ancestors
abbrev pub IsAround : Scope → List (Source × Forest Source) → Type 0
IsAround scope ancestors = (kind : DefinitionKind) (name : Text)
    → (innermost_in kind scope name ≡ first_number (kind_word kind) name (around ancestors))
    × (outermost_in kind scope name ≡ first_number (kind_word kind) name (around (reverse ancestors)))
