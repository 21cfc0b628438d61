use Rattle.std.proofs.Common.{◌≡◌, drop}
use Rattle.yspec_wide.specs.Table.{row_before}
use Rattle.ytext.specs.View.{row_view}
use Rattle.ylink_grammar.specs.LanguageView.{language_view}
use Rattle.ylink_grammar.specs.Miscounted.{first_miscounted}
use Rattle.ylink_grammar.specs.TableView.{allowed_views}
use Rattle.ylink_grammar.proofs.counted.first_of_core.Given as goal

abbrev pub invariant-loop-a : goal.invariant-loop-a
invariant-loop-a l =
    first_miscounted (language_view l.language) (row_view l.statements) (row_before (allowed_views (drop l.a-index l.allowed)))
    ≡ first_miscounted (language_view l.language) (row_view l.statements) (row_before (allowed_views l.allowed))
