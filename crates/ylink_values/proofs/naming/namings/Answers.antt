use Rattle.std.proofs.Common.{◌≡◌, ap, sym, ◌∙◌, rules, true, false}
use Rattle.yspec.specs.linking.Keyword.{same_keyword}
use Rattle.yspec.specs.linking.Source.{is_source_of, argument_in}
use Rattle.ybase_preorder.specs.View.{row_by, label_by}
use Rattle.ybase_preorder.proofs.RowLemmas.{takes_by, takes_none_by}
use Rattle.ybase_words.specs.KeywordView.{keyword_view}
use Rattle.ylink_grammar.specs.SourceView.{source_view}
use Rattle.ylink_values.specs.KindView.{naming_word, number_by}
use Rattle.ylink_values.proofs.NamingLemmas.{next_naming, no_naming, all_namings}
use Rattle.ylink_values.proofs.naming.namings.Goals as goal

pub loop-statement-preserved-then-not-is : goal.loop-statement-preserved-then-not-is
loop-statement-preserved-then-not-is c =
    let before = c.loop-statement.statement-iterator in
    let after = c.next.new.self in
    let s = c.in-Some.statement in
    let k = naming_word c.args.kind in
    let keyword : c.is.result ≡ same_keyword k (label_by source_view s).keyword =
    c.is.ensures ∙ (ap (λ w. same_keyword w (keyword_view c.label.result.now.keyword)) c.keyword-keyword.ensures
    ∙ ap (λ l. same_keyword k (keyword_view l.keyword)) c.label.ensures) in
    let other : same_keyword k (label_by source_view s).keyword ≡ false = sym keyword ∙ first_of (search rules, cc) in
    record {
      more = tt;
      ends = tt;
      so_far = no_naming (λ s inner. is_source_of (naming_word c.args.kind) s) (number_by c.args.kind) c.loop-statement.namings.items (label_by source_view s) (row_by source_view s.children) (row_by source_view after)
          (row_by source_view before) _ (takes_by source_view before after s c.in-Some.ensures.steps) other c.loop-statement.invariant.so_far;
    }

pub loop-statement-preserved : goal.loop-statement-preserved
loop-statement-preserved c =
    let before = c.loop-statement.statement-iterator in
    let after = c.next.new.self in
    let s = c.in-Some.statement in
    let k = naming_word c.args.kind in
    let keyword : c.is.result ≡ same_keyword k (label_by source_view s).keyword =
    c.is.ensures ∙ (ap (λ w. same_keyword w (keyword_view c.label.result.now.keyword)) c.keyword-keyword.ensures
    ∙ ap (λ l. same_keyword k (keyword_view l.keyword)) c.label.ensures) in
    let stands : same_keyword k (label_by source_view s).keyword ≡ true = sym keyword ∙ first_of (search rules, cc) in
    let number : c.number_stated-number.result ≡ number_by c.args.kind (row_by source_view s.children) =
    c.number_stated-number.ensures ∙ ap (λ n. number_by c.args.kind (row_by source_view n)) c.children.ensures in
    record {
      more = tt;
      ends = tt;
      so_far = next_naming (λ s inner. is_source_of (naming_word c.args.kind) s) (number_by c.args.kind) c.loop-statement.namings.items _ c.in_ok-named.named (label_by source_view s) (row_by source_view s.children) (row_by source_view after)
          (row_by source_view before) _ (takes_by source_view before after s c.in-Some.ensures.steps) stands (search rules)
          (c.in_ok-named.ensures ∙ ap (λ m. record { name = argument_in (label_by source_view s); number = m }) number) c.loop-statement.invariant.so_far;
    }

pub returns : goal.returns
returns c =
    let before = c.loop-statement.statement-iterator in
    all_namings (λ s inner. is_source_of (naming_word c.args.kind) s) (number_by c.args.kind) c.loop-statement.namings.items (row_by source_view before) _
    (takes_none_by source_view before c.next.new.self c.in-None.ensures.steps).0 c.loop-statement.invariant.so_far
