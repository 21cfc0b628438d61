use Rattle.std.proofs.Common.{rules, ◌≡◌, ◌+◌, ◌++◌, ◌&&◌, Some, None, drop, length, arith, sym, ap, ap₂, ◌∙◌}
use Rattle.std.proofs.lemmas.List.{append-nil, at_drop_all}
use Rattle.yspec.specs.Forest.{end, node}
use Rattle.yspec_wide.specs.Sources.{kept_in, kept_keyword_in, is_derived_type}
use Rattle.ytext.specs.View.{view, row_view}
use Rattle.ytext.proofs.ViewLemmas.{row_view_at}
use Rattle.ybase_preorder.specs.View.{slots_in}
use Rattle.ybase_words.specs.KeywordView.{keyword_view}
use Rattle.ylink_grammar.specs.LanguageView.{language_view}
use Rattle.ylink_grammar.specs.SourceView.{seen_rows, whole_rows, listed}
use Rattle.ylink_grammar.specs.Wholes.{wholes_in}
use Rattle.ylink_grammar.proofs.SourceLemmas.{added, kept-none, kept-some, listed-none, next_statement, all_statements}
use Rattle.ylink_grammar.proofs.WholeLemmas.{wholes-none, added_whole, then_more, no_more}
use Rattle.ylink_grammar.proofs.adding.+statements.Goals as goal

pub add_statement-returns-in_default-clause-listed : goal.add_statement-returns-in_default-clause-listed
add_statement-returns-in_default-clause-listed t c =
    let g = language_view c.args.language.now in
    let s = view c.args.statement.now in
    let none : kept_keyword_in g c.args.restricting s.0 ≡ None = search rules in
    sym (ap (λ ps. seen_rows c.args.table.now ++ ps)
    (listed-none c.args.parent c.args.may c.args.home (length (slots_in c.args.table.now)) (kept_in g c.args.may c.args.restricting (node s.0 s.1 end))
    (kept-none g c.args.may c.args.restricting s.0 s.1 none))
    ∙ append-nil (seen_rows c.args.table.now))

pub add_statement-returns-in_default-clause-whole : goal.add_statement-returns-in_default-clause-whole
add_statement-returns-in_default-clause-whole t c =
    let g = language_view c.args.language.now in
    let s = view c.args.statement.now in
    let none : kept_keyword_in g c.args.restricting s.0 ≡ None = search rules in
    sym (ap (λ l. whole_rows c.args.table.now ++ l) (wholes-none g c.args.restricting s.0 s.1 none) ∙ append-nil (whole_rows c.args.table.now))

pub add_statement-returns-clause-listed : goal.add_statement-returns-clause-listed
add_statement-returns-clause-listed t c =
    let g = language_view c.args.language.now in
    let s = view c.args.statement.now in
    let old = c.args.table.now in
    let w = keyword_view c.in-Some.keyword in
    let n = c.in_ok-number.number in
    let mid = c.open.new.self in
    let full = c.add_statements.new.table in
    let some : kept_keyword_in g c.args.restricting s.0 ≡ Some w = search rules in
    let below : c.restricts_below-below.result ≡ (is_derived_type w s.0 && c.args.may) = c.restricts_below-below.ensures
    ∙ ap₂ (λ k t. is_derived_type (keyword_view k) (view t).0 && c.args.may) c.new-source.ensures.keyword c.new-source.ensures.whole in
    let full_is : seen_rows full ≡ seen_rows mid ++ listed (Some n) c.args.may c.args.home (length (slots_in mid)) (kept_in g c.args.may (is_derived_type w s.0 && c.args.may) s.1) =
    c.in_ok-add_statements.ensures.listed
    ∙ ap₂ (λ b f. seen_rows mid ++ listed (Some n) c.args.may c.args.home (length (slots_in mid)) (kept_in g c.args.may b f)) below c.substatements.ensures.below in
    added old mid full c.close.new.self c.args.parent c.args.may c.args.home _ n w s.0 (kept_in g c.args.may (is_derived_type w s.0 && c.args.may) s.1)
    c.in_ok-number.ensures.laid c.in_ok-number.ensures.number full_is c.close.ensures (c.new-source.ensures.label (length (slots_in old)))
    ∙ ap (λ f. seen_rows old ++ listed c.args.parent c.args.may c.args.home (length (slots_in old)) f) (sym (kept-some g c.args.may c.args.restricting s.0 s.1 w some))

pub add_statement-returns-clause-whole : goal.add_statement-returns-clause-whole
add_statement-returns-clause-whole t c =
    let g = language_view c.args.language.now in
    let s = c.args.statement.now in
    let some : kept_keyword_in g c.args.restricting (view s).0 ≡ Some (keyword_view c.in-Some.keyword) = search rules in
    let mid = c.open.new.self in
    added_whole g c.args.restricting c.args.table.now mid c.add_statements.new.table c.close.new.self c.args.parent _ c.in_ok-number.number (keyword_view c.in-Some.keyword) s
    c.in_ok-number.ensures.laid c.new-source.ensures.whole
    (c.in_ok-add_statements.ensures.whole ∙ ap (λ f. whole_rows mid ++ wholes_in g f) c.substatements.ensures.below)
    c.close.ensures some

pub add_statements-loop-statement-preserved : goal.add_statements-loop-statement-preserved
add_statements-loop-statement-preserved t c =
    let g = language_view c.args.language.now in
    let ss = c.args.statements.now in
    let i = c.loop-statement.statement-index in
    let s = c.statement-item.result in
    let rest = row_view (drop (i + 1) ss) in (
      next_statement g c.args.may c.args.restricting ss i s c.loop-statement.table c.add_statement.new.table c.args.parent c.args.home _
          (omega arith) c.statement-item.is c.in_ok-add_statement.ensures.listed c.loop-statement.invariant.0,
      then_more g (whole_rows c.loop-statement.table) (whole_rows c.add_statement.new.table) _ (view s) (row_view (drop i ss)) rest
          (row_view_at ss i s (omega arith) c.statement-item.is) c.in_ok-add_statement.ensures.whole c.loop-statement.invariant.1,
    )

pub add_statements-returns-clause-listed : goal.add_statements-returns-clause-listed
add_statements-returns-clause-listed t c =
    let g = language_view c.args.language.now in
    all_statements g c.args.may c.args.restricting c.args.statements.now c.loop-statement.statement-index c.loop-statement.table c.args.parent c.args.home _ (omega arith) c.loop-statement.invariant.0

pub add_statements-returns-clause-whole : goal.add_statements-returns-clause-whole
add_statements-returns-clause-whole t c =
    let g = language_view c.args.language.now in
    let ss = c.args.statements.now in
    let i = c.loop-statement.statement-index in
    no_more g (whole_rows c.loop-statement.table) _ (row_view (drop i ss)) (at_drop_all row_view ss i (omega arith)) c.loop-statement.invariant.1
