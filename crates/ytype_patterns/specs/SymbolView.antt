-- Symbols of a pattern's text as the specification's.
use Rattle.std.specs.Prelude.{ℕ, ◌&&◌, Option, option_map}
use Rattle.ucd_category.specs.GeneralCategory.{general_category, general_category_number}
use Rattle.ucd_table.specs.Steps.{is_between}
use Rattle.yspec_patterns.specs.Sets as sets
use Rattle.yspec_patterns.specs.Escapes as spec
use Rattle.ytype_patterns.specs.declared.symbols.NamedSet.{NamedSet}
use Rattle.ytype_patterns.specs.declared.symbols.NamedSet.TheVariants as names
use Rattle.ytype_patterns.specs.declared.symbols.Symbol.{Symbol}
use Rattle.ytype_patterns.specs.declared.symbols.Symbol.TheVariants as symbols
use Rattle.ytype_patterns.specs.declared.symbols.Escape.{Escape}
use Rattle.ytype_patterns.specs.declared.symbols.Escape.TheVariants as escapes

-- the characters of the categories with these numbers
abbrev pub categories_within : ℕ → ℕ → sets.Set
categories_within first last = λ c. sets.is_character c && is_between first last (general_category_number (general_category c))

abbrev pub named_view : NamedSet → sets.Set
named_view names.White = sets.white
named_view names.NameStarts = sets.name_starts
named_view names.NameCharacters = sets.name_characters
named_view names.Words = sets.words
named_view (names.Category g) = sets.of_category g
named_view (names.Group g) = sets.of_group g

abbrev pub symbol_view : Symbol → spec.Symbol
symbol_view (symbols.Sign c) = spec.sign c
symbol_view (symbols.Escaped c) = spec.escaped c
symbol_view (symbols.Set name outside) = spec.set_named (spec.turned outside (named_view name))

abbrev pub escape_view : Escape → spec.Escape
escape_view escapes.Nothing = spec.no_escape
escape_view escapes.Backslash = spec.backslash
escape_view (escapes.Property outside) = spec.property outside
escape_view (escapes.Brace outside) = spec.brace outside
escape_view (escapes.OneLetter outside first) = spec.one_letter outside first
escape_view (escapes.TwoLetters outside first second) = spec.two_letters outside first second

-- what a step gives
abbrev pub made_symbol : Option Symbol × Escape → Option spec.Symbol × spec.Escape
made_symbol step = (option_map symbol_view step.0, escape_view step.1)
