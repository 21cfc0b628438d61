-- The statements of a set of modules as the specification's.
use Rattle.std.specs.Prelude.{List}
use Rattle.yspec.specs.Forest.{Forest}
use Rattle.yspec.specs.linking.Source.{Source}
use Rattle.ytext.specs.View.{Labelled}
use Rattle.ybase_preorder.specs.Layout.{numbered_by}
use Rattle.ybase_preorder.specs.View.{forest_in}
use Rattle.ylink_grammar.specs.SourceView.{source_view, whole_rows}
use Rattle.ylink_grammar.specs.declared.sources.Sources.{Sources}

abbrev pub view : Sources → Forest Source
view s = numbered_by source_view 0 (forest_in s.table)

-- its statements, by their numbers, each with all that stands below it in its module's text
abbrev pub wholes : Sources → List Labelled
wholes s = whole_rows s.table
