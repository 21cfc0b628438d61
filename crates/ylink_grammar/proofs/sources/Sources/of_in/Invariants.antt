use Rattle.std.proofs.Common.{◌≡◌, ◌++◌, None, drop, length}
use Rattle.yspec_wide.specs.Sources.{sources_in_from, sources_in}
use Rattle.ytext.specs.View.{modules_view}
use Rattle.ybase_preorder.specs.Layout.{places}
use Rattle.ybase_preorder.specs.View.{slots_in}
use Rattle.ylink_grammar.specs.LanguageView.{language_view}
use Rattle.ylink_grammar.specs.SourceView.{seen_rows, whole_rows}
use Rattle.ylink_grammar.specs.Wholes.{wholes_in}
use Rattle.ylink_grammar.proofs.sources.Sources.of_in.Given as goal

abbrev pub invariant-loop-home : goal.invariant-loop-home
invariant-loop-home l =
    (seen_rows l.table ++ places None (length (slots_in l.table)) (sources_in_from (language_view l.language) l.home (length (slots_in l.table)) (modules_view (drop l.home l.modules)))
    ≡ places None 0 (sources_in (language_view l.language) (modules_view l.modules)))
    × (whole_rows l.table ++ wholes_in (language_view l.language) (modules_view (drop l.home l.modules)) ≡ wholes_in (language_view l.language) (modules_view l.modules))
