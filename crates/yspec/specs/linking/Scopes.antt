-- Scopes: which definition the name of a type, a grouping or an identity means where it stands, and names that are taken, C7, or not found,
-- C8 (RFC 7950, 5.5, 6.2.1, 7.3 and 7.12).
use Rattle.std.specs.Prelude.{ℕ, ◌==◌, ◌&&◌, ◌||◌, ◌++◌, Bool, false, not, List, [], ◌∷◌, find, reverse, Option, Some, None, is_some, option_map, option_and_then, if◌then◌else◌}
use Rattle.std.specs.List.{flat_map}
use Rattle.std.specs.Option.{option_map_or}
use Rattle.yspec.specs.Forest.{Forest, end, node, row}
use Rattle.yspec.specs.text.Text.{Text, is_text}
use Rattle.yspec.specs.linking.Keyword.{Keyword}
use Rattle.yspec.specs.linking.Keyword as word
use Rattle.yspec.specs.linking.Arguments.{Name, name_of}
use Rattle.yspec.specs.linking.Source.{Source, is_source_of, argument_in}
use Rattle.yspec.specs.linking.StatementBreaks.{is_type_outside}
use Rattle.yspec.specs.linking.BuiltIns.{built_in_named}
use Rattle.yspec.specs.linking.Imports.{body_at, module_meant}
use Rattle.yspec.specs.schema.Breaks.{Break, broken, when}

-- ---- where statements stand

-- A statement with what is below it, and its ancestors, innermost first, each with its substatements.
pub record Placed : Type 0 where
  pub source : Source
  pub below : Forest Source
  pub ancestors : List (Source × Forest Source)

unfoldable pub placed : List (Source × Forest Source) → Forest Source → List Placed
placed ancestors end = []
placed ancestors (node s below after) = record { source = s; below = below; ancestors = ancestors }
    ∷ (placed ((s, below) ∷ ancestors) below ++ placed ancestors after)

-- all statements of a set of modules, in order
abbrev pub statements_of : Forest Source → List Placed
statements_of modules = placed [] modules

abbrev pub statement_at : Forest Source → ℕ → Option Placed
statement_at modules number = find (λ p. p.source.number == number) (statements_of modules)

-- ---- what a name means

abbrev pub defines : Keyword → Text → Source → Bool
defines kind name s = is_source_of kind s && is_text (argument_in s) name

-- the substatements of ancestors
abbrev pub around : List (Source × Forest Source) → List Source
around ancestors = flat_map (λ a. row a.1) ancestors

-- the kind of the definition that a statement names
abbrev pub kind_named : Keyword → Option Keyword
kind_named word.type_word = Some word.typedef_word
kind_named word.uses_word = Some word.grouping_word
kind_named word.base_word = Some word.identity_word
kind_named _ = None

-- A name without a prefix, or with that of the module in which it stands, means a definition among the substatements of an
-- ancestor; with another prefix one at the top of the module that the prefix names.
abbrev pub defined_in : Forest Source → Keyword → Text → Placed → ℕ → Option Source
defined_in modules kind name p m = if m == p.source.home then find (defines kind name) (around p.ancestors)
    else find (defines kind name) (row (body_at modules m))

abbrev pub definition_named : Forest Source → Keyword → Placed → Name → Option Source
definition_named modules kind p n = option_and_then (defined_in modules kind n.identifier p)
    (option_map_or (module_meant modules p.source.home) n.prefix (Some p.source.home))

-- names of built-in types, those among them that aren't compiled included
abbrev pub is_built_in : Text → Bool
is_built_in name = is_some (built_in_named name) || is_type_outside name

abbrev pub names_built_in : Source → Bool
names_built_in s = is_source_of word.type_word s && is_built_in (argument_in s)

-- the typedef, grouping or identity that a `type`, `uses` or `base` statement names; none for a built-in type
abbrev pub meaning : Forest Source → Placed → Option Source
meaning modules p = if names_built_in p.source then None
    else option_and_then (λ kind. option_and_then (definition_named modules kind p) (name_of (argument_in p.source)))
    (kind_named p.source.keyword)

-- the number of the definition that the statement of a number names
abbrev pub number_named : Forest Source → ℕ → Option ℕ
number_named modules number = option_map (λ d. d.number) (option_and_then (meaning modules) (statement_at modules number))

-- ---- C7: names that are taken

abbrev pub is_definition : Source → Bool
is_definition s = is_source_of word.typedef_word s || (is_source_of word.grouping_word s || is_source_of word.identity_word s)

-- Of several definitions of one kind and name around a statement the outermost has the name, and there the first.
abbrev pub holder : Placed → Option Source
holder p = find (defines p.source.keyword (argument_in p.source)) (around (reverse p.ancestors))

abbrev pub is_taken : Placed → Bool
is_taken p = is_definition p.source && (option_map_or (λ d. not (d.number == p.source.number)) (holder p) false
    || (is_source_of word.typedef_word p.source && is_built_in (argument_in p.source)))

abbrev pub taken_break : Placed → List Break
taken_break p = when (is_taken p) (broken 7 p.source.home p.source.statement.line)

abbrev pub taken_breaks : Forest Source → List Break
taken_breaks modules = flat_map taken_break (statements_of modules)

-- ---- C8: names that are not found

abbrev pub is_lost : Forest Source → Placed → Bool
is_lost modules p = is_some (kind_named p.source.keyword)
    && (not (names_built_in p.source) && not (is_some (meaning modules p)))

abbrev pub lost_break : Forest Source → Placed → List Break
lost_break modules p = when (is_lost modules p) (broken 8 p.source.home p.source.statement.line)

abbrev pub lost_breaks : Forest Source → List Break
lost_breaks modules = flat_map (lost_break modules) (statements_of modules)
