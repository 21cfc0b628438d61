use Rattle.std.proofs.Common.{◌≡◌, drop}
use Rattle.yspec_wide.specs.StatementBreaks as spec
use Rattle.yspec_wide.specs.Table.{row_before}
use Rattle.ylink_grammar.specs.TableView.{allowed_views}
use Rattle.ylink_grammar.specs.WordView.{word_view}
use Rattle.ylink_grammar.proofs.grammar.is_among.Given as goal

abbrev pub invariant-loop-a : goal.invariant-loop-a
invariant-loop-a l =
    spec.is_allowed (word_view l.word) (row_before (allowed_views (drop l.a-index l.allowed))) ≡ spec.is_allowed (word_view l.word) (row_before (allowed_views l.allowed))
