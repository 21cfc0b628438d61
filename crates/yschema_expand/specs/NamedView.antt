-- Statements with what their names mean, as the specification's.
use Rattle.std.specs.Prelude.{ℕ, Option}
use Rattle.std.specs.Option.{option_map_or}
use Rattle.yspec.specs.Forest.{Forest, end}
use Rattle.yspec.specs.linking.Source.{Source}
use Rattle.yspec.specs.linking.Parts.{Part}
use Rattle.yspec.specs.linking.DerivedTypes.{number_named}
use Rattle.yspec.specs.linking.Expansion.{groupings_of, row_in}
use Rattle.ybase_preorder.specs.View.{row_by}
use Rattle.ybase_preorder.specs.declared.siblings.Siblings.{Siblings}
use Rattle.yspec_wide.specs.Language.{Language}
use Rattle.ylink_grammar.specs.LanguageView.{language_view}
use Rattle.ylink_grammar.specs.LinkView.{view}
use Rattle.ylink_grammar.specs.SourceView.{source_view}
use Rattle.ylink_grammar.specs.declared.source.Source as held
use Rattle.yschema_expand.specs.declared.named.Named.{Named}
pub use Rattle.yschema_given.specs.GivenView.{row_or_none}

-- the language in which they are read
abbrev pub language_of : Named → Language
language_of n = language_view n.language.now

abbrev pub modules_of : Named → Forest Source
modules_of n = view n.sources.now

-- the row of the grouping that the statement of a number uses
abbrev pub row_named : Forest Source → ℕ → Forest Part
row_named modules number = option_map_or (row_in (groupings_of modules)) (number_named modules number) end
