use Rattle.std.proofs.Common.{rules, ◌≡◌, ◌&&◌, ◌∙◌, true, false, not, count_by, sym, ap, ap₂, List}
use Rattle.std.specs.List.{list_any, list_all}
use Rattle.yspec.specs.Forest.{row}
use Rattle.yspec.specs.linking.Expansion.{is_borne}
use Rattle.yspec.specs.linking.Keyword.{Keyword, same_keyword}
use Rattle.yspec.specs.linking.Source.{is_source_of}
use Rattle.yspec.specs.linking.Table.{Allowed}
use Rattle.yspec.specs.schema.Breaks.{is_wrong_count}
use Rattle.ybase_preorder.specs.View.{row_by, label_by}
use Rattle.ybase_preorder.proofs.RowLemmas.{takes_by}
use Rattle.ybase_words.specs.KeywordView.{keyword_view}
use Rattle.ylink_grammar.specs.SourceView.{source_view}
use Rattle.ylink_grammar.proofs.refining.may_bear.Goals as goal

pub returns-then-not-is_borne : goal.returns-then-not-is_borne
returns-then-not-is_borne c =
    let given = row_by source_view c.args.given in
    let test = is_borne (keyword_view c.args.keyword) given in
    let before = c.loop-statement.statement-iterator in
    let after = c.next.new.self in
    let s = label_by source_view c.in-Some.statement in
    let taken = takes_by source_view before after c.in-Some.statement c.in-Some.ensures.steps in
    let keyword : keyword_view c.label.result.now.keyword ≡ s.keyword = ap (λ l. keyword_view l.keyword) c.label.ensures in
    let borne : c.is_borne.result ≡ test s = c.is_borne.ensures
    ∙ ap₂ (λ (k : Keyword) (table : List Allowed). list_any (λ a. same_keyword a.keyword k && not (is_wrong_count a.count (count_by (is_source_of k) (row given)))) table)
    keyword (ap (λ r. r.substatements) c.rule_of-rule.ensures) in
    let none : c.is_borne.result ≡ false = first_of (search rules, cc) in
    sym (sym c.loop-statement.invariant.so_far ∙ (ap (λ f. list_all test (row f)) taken
    ∙ ap (λ b. b && list_all test (row (row_by source_view after))) (sym borne ∙ none)))

pub loop-statement-preserved : goal.loop-statement-preserved
loop-statement-preserved c =
    let given = row_by source_view c.args.given in
    let test = is_borne (keyword_view c.args.keyword) given in
    let before = c.loop-statement.statement-iterator in
    let after = c.next.new.self in
    let s = label_by source_view c.in-Some.statement in
    let taken = takes_by source_view before after c.in-Some.statement c.in-Some.ensures.steps in
    let keyword : keyword_view c.label.result.now.keyword ≡ s.keyword = ap (λ l. keyword_view l.keyword) c.label.ensures in
    let borne : c.is_borne.result ≡ test s = c.is_borne.ensures
    ∙ ap₂ (λ (k : Keyword) (table : List Allowed). list_any (λ a. same_keyword a.keyword k && not (is_wrong_count a.count (count_by (is_source_of k) (row given)))) table)
    keyword (ap (λ r. r.substatements) c.rule_of-rule.ensures) in
    let all : c.is_borne.result ≡ true = first_of (search rules, cc) in
    record {
      more = tt;
      ends = tt;
      so_far = sym (ap (λ f. list_all test (row f)) taken ∙ ap (λ b. b && list_all test (row (row_by source_view after))) (sym borne ∙ all))
          ∙ c.loop-statement.invariant.so_far;
    }
