use Rattle.std.proofs.Common.{◌≡◌, true, false, Some, None, sym, ap, ◌∙◌, rules}
use Rattle.yspec.specs.types.Restriction.{narrowed}
use Rattle.yspec.specs.linking.TypeStatements as spec
use Rattle.ybase_preorder.specs.View.{row_by, label_by}
use Rattle.ybase_preorder.proofs.RowLemmas.{takes_by, takes_none_by}
use Rattle.ylink_grammar.specs.SourceView.{source_view}
use Rattle.ylink_values.proofs.MatchLemmas.{matched_past, matched_more, matched_all}
use Rattle.ylink_values.proofs.matching.matched_type.Goals as goal

pub loop-statement-preserved-then-not-is_pattern_statement : goal.loop-statement-preserved-then-not-is_pattern_statement
loop-statement-preserved-then-not-is_pattern_statement c =
    let before = c.loop-statement.statement-iterator in
    let s = c.in-Some.statement in
    let after = row_by source_view c.next.new.self in
    let first = takes_by source_view before c.next.new.self s c.in-Some.ensures.steps in
    let fails : c.is_pattern_statement.result ≡ false = first_of (search rules, cc) in
    let other : spec.is_pattern_statement (label_by source_view s) ≡ false =
    sym (c.is_pattern_statement.ensures s.number ∙ ap (λ l. spec.is_pattern_statement (source_view s.number l)) c.label.ensures) ∙ fails in
    record {
      more = tt;
      ends = tt;
      made = matched_past (label_by source_view s) (row_by source_view s.children) after (row_by source_view before) first c.loop-statement.made other
          ∙ c.loop-statement.invariant.made;
    }

pub loop-statement-preserved : goal.loop-statement-preserved
loop-statement-preserved c =
    let before = c.loop-statement.statement-iterator in
    let s = c.in-Some.statement in
    let after = row_by source_view c.next.new.self in
    let first = takes_by source_view before c.next.new.self s c.in-Some.ensures.steps in
    let holds : c.is_pattern_statement.result ≡ true = first_of (search rules, cc) in
    let stands : spec.is_pattern_statement (label_by source_view s) ≡ true =
    sym (c.is_pattern_statement.ensures s.number ∙ ap (λ l. spec.is_pattern_statement (source_view s.number l)) c.label.ensures) ∙ holds in
    let made : Some c.in-Some-2.matched ≡ narrowed c.loop-statement.made (spec.pattern_stated (label_by source_view s) (row_by source_view s.children)) =
    sym c.in-Some-2.is ∙ c.in_ok-matched.ensures in
    record {
      more = tt;
      ends = tt;
      made = matched_more (label_by source_view s) (row_by source_view s.children) after (row_by source_view before) first c.loop-statement.made _ stands made
          ∙ c.loop-statement.invariant.made;
    }

pub returns-in-None-2 : goal.returns-in-None-2
returns-in-None-2 c =
    let before = c.loop-statement.statement-iterator in
    let s = c.in-Some.statement in
    let after = row_by source_view c.next.new.self in
    let first = takes_by source_view before c.next.new.self s c.in-Some.ensures.steps in
    let holds : c.is_pattern_statement.result ≡ true = first_of (search rules, cc) in
    let stands : spec.is_pattern_statement (label_by source_view s) ≡ true =
    sym (c.is_pattern_statement.ensures s.number ∙ ap (λ l. spec.is_pattern_statement (source_view s.number l)) c.label.ensures) ∙ holds in
    let made : None ≡ narrowed c.loop-statement.made (spec.pattern_stated (label_by source_view s) (row_by source_view s.children)) =
    sym c.in-None-2.is ∙ c.in_ok-matched.ensures in
    matched_more (label_by source_view s) (row_by source_view s.children) after (row_by source_view before) first c.loop-statement.made None stands made
    ∙ c.loop-statement.invariant.made

pub returns : goal.returns
returns c =
    let before = c.loop-statement.statement-iterator in
    let ended = (takes_none_by source_view before c.next.new.self c.in-None.ensures.steps).0 in
    matched_all (row_by source_view before) c.loop-statement.made ended ∙ c.loop-statement.invariant.made
