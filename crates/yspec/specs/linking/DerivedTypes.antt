-- What typedefs mean, each by way of those that it names, and so `type` statements: types, and defaults (RFC 7950, 7.3 and 9).
use Rattle.std.specs.Prelude.{ℕ, zero, suc, ◌&&◌, Bool, false, not, List, [], ◌∷◌, Option, Some, None, option_map, option_and_then, if◌then◌else◌}
use Rattle.std.specs.List.{flat_map}
use Rattle.std.specs.Option.{option_map_or}
use Rattle.yspec.specs.Forest.{Forest, size, first_of}
use Rattle.yspec.specs.types.Types.{YangType}
use Rattle.yspec.specs.linking.Keyword as word
use Rattle.yspec.specs.linking.Source.{Source, Stated, is_source_of, stated_with, found_with}
use Rattle.yspec.specs.linking.TypeStatements.{Meant, Verdict, unjudged, verdict_on, meaning_of, own_type, told}
pub use Rattle.yspec.specs.linking.Scopes.{number_named}
use Rattle.yspec.specs.linking.Scopes.{Placed, statements_of, statement_at}
use Rattle.yspec.specs.schema.Breaks.{Break}

-- what is known of a typedef: the verdict on its `type` statement, and the default that it has, or else its type
pub record Known : Type 0 where
  pub verdict : Verdict
  pub default : Option Stated

abbrev pub unknown : Known
unknown = record { verdict = unjudged; default = None }

-- what is known of the definition that the statement of a number names, given what is known of each
abbrev pub named : Forest Source → (ℕ → Known) → ℕ → Known
named modules known number = option_map_or known (number_named modules number) unknown

abbrev pub verdict_by : (ℕ → Known) → ℕ → Verdict
verdict_by named number = (named number).verdict

-- of a typedef whose row is given and its `type` statement; `names` is what is known of those that statements name
abbrev pub known_by : Forest Source → (ℕ → Known) → Forest Source → Source × Forest Source → Known
known_by modules names row type = record {
  verdict = verdict_on modules (verdict_by names) false type.0 type.1;
  default = first_of (stated_with word.default_word row) (names type.0.number).default;
}

abbrev pub known_in_row : Forest Source → (ℕ → Known) → Forest Source → Known
known_in_row modules names row = option_map_or (known_by modules names row) (found_with word.type_word row) unknown

-- the row below the statement of a number, where that is a typedef
abbrev pub typedef_row : Forest Source → ℕ → Option (Forest Source)
typedef_row modules number = option_and_then (λ p. if is_source_of word.typedef_word p.source then Some p.below else None)
    (statement_at modules number)

-- of the typedef of a number, by way of so many others at most
unfoldable pub known_within : Forest Source → ℕ → ℕ → Known
known_within modules zero number = unknown
known_within modules (suc steps) number =
    option_map_or (known_in_row modules (named modules (known_within modules steps))) (typedef_row modules number) unknown

-- of the typedef that the statement of a number names
abbrev pub known_named : Forest Source → ℕ → Known
known_named modules = named modules (known_within modules (size modules))

-- ---- `type` statements where they stand

-- one that stands right below another is a member of a union
abbrev pub is_member : List (Source × Forest Source) → Bool
is_member [] = false
is_member (a ∷ ancestors) = is_source_of word.type_word a.0

-- one that may not be a leafref
abbrev pub is_own_member : Placed → Bool
is_own_member p = is_member p.ancestors && not p.source.may_refer

abbrev pub verdict_of : Forest Source → Placed → Verdict
verdict_of modules p = verdict_on modules (verdict_by (known_named modules)) (is_own_member p) p.source p.below

-- what a statement means that is a `type` statement
abbrev pub meant_by : Forest Source → Placed → Option Meant
meant_by modules p = if is_source_of word.type_word p.source then meaning_of (verdict_of modules p) else None

-- what the `type` statement of a number means
abbrev pub type_meant : Forest Source → ℕ → Option Meant
type_meant modules number = option_and_then (meant_by modules) (statement_at modules number)

-- the type of a `type` statement of a number that refers to no other node
abbrev pub type_stated : Forest Source → ℕ → Option YangType
type_stated modules number = option_and_then own_type (type_meant modules number)

-- the default that the typedef has which it names
abbrev pub default_meant : Forest Source → Source → Option Stated
default_meant modules s = (known_named modules s.number).default

-- ---- C10

abbrev pub type_break : Forest Source → Placed → List Break
type_break modules p = if is_source_of word.type_word p.source then told p.source (verdict_of modules p) else []

abbrev pub type_breaks : Forest Source → List Break
type_breaks modules = flat_map (type_break modules) (statements_of modules)
