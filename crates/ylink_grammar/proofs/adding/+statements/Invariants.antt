use Rattle.std.proofs.Common.{◌≡◌, ◌++◌, drop, length}
use Rattle.yspec_wide.specs.Sources.{kept_in}
use Rattle.ytext.specs.View.{row_view}
use Rattle.ybase_preorder.specs.View.{slots_in}
use Rattle.ylink_grammar.specs.LanguageView.{language_view}
use Rattle.ylink_grammar.specs.SourceView.{seen_rows, whole_rows, listed}
use Rattle.ylink_grammar.specs.Wholes.{wholes_in}
use Rattle.ylink_grammar.proofs.adding.+statements.Given as goal

abbrev pub invariant-add_statements-loop-statement : goal.invariant-add_statements-loop-statement
invariant-add_statements-loop-statement l =
    (seen_rows l.table ++ listed l.parent l.may l.home (length (slots_in l.table)) (kept_in (language_view l.language) l.may l.restricting (row_view (drop l.statement-index l.statements)))
    ≡ seen_rows l.fn.table ++ listed l.parent l.may l.home (length (slots_in l.fn.table)) (kept_in (language_view l.language) l.may l.restricting (row_view l.statements)))
    × (whole_rows l.table ++ wholes_in (language_view l.language) (row_view (drop l.statement-index l.statements))
    ≡ whole_rows l.fn.table ++ wholes_in (language_view l.language) (row_view l.statements))
