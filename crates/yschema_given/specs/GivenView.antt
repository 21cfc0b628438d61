-- What a node states with what it is given.
use Rattle.std.specs.Prelude.{List, [], ◌∷◌, Option, if◌then◌else◌}
use Rattle.std.specs.Option.{option_map_or}
use Rattle.yspec.specs.Forest.{Forest, end, join}
use Rattle.yspec.specs.linking.Source.{Source}
use Rattle.yspec.specs.linking.Expansion.{others}
use Rattle.yspec.specs.linking.Parts.{own_of}
use Rattle.yspec_wide.specs.Language.{Language}
use Rattle.yspec_wide.specs.Sources.{guard_row, without_guards}
use Rattle.yspec_wide.specs.Standing.{without_default}
use Rattle.ybase_preorder.specs.View.{row_by}
use Rattle.ybase_preorder.specs.declared.siblings.Siblings.{Siblings}
use Rattle.ylink_grammar.specs.LanguageView.{language_view}
use Rattle.ylink_grammar.specs.SourceView.{source_view}
use Rattle.ylink_grammar.specs.declared.source.Source as held
use Rattle.yschema_given.specs.declared.given.Given.{Given}
use Rattle.yschema_given.specs.declared.given.Given.TheVariants.{Row, NoDefault}
use Rattle.yschema_given.specs.declared.given_row.GivenRow.{GivenRow}

-- a row of statements that may not be there
abbrev pub row_or_none : Option (Siblings held.Source) → Forest Source
row_or_none row = option_map_or (row_by source_view) row end

abbrev pub language_of : GivenRow → Language
language_of g = language_view g.language.now

abbrev pub row_of : GivenRow → Forest Source
row_of g = row_by source_view g.row

-- What a node states once it is given a row: what a refine gives takes the place of all of those kinds, but conditions
-- come to its own.
abbrev pub stated_with_row : GivenRow → Forest Source → Forest Source
stated_with_row g own = if g.is_refine then join (others (without_guards (language_of g) (row_of g)) own) (row_of g)
    else join own (guard_row (language_of g) (own_of (row_of g)))

abbrev pub stated_with : Given → Forest Source → Forest Source
stated_with (Row g) own = stated_with_row g own
stated_with NoDefault own = without_default own

-- and one after another
abbrev pub stated_after : Forest Source → List Given → Forest Source
stated_after own [] = own
stated_after own (given ∷ more) = stated_after (stated_with given own) more
