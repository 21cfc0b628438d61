use Rattle.std.proofs.Common.{◌≡◌, ◌+◌, ◌&&◌, suc, not, min, true, false, cond, arith, sym, ap, ap₂, ◌∙◌}
use Rattle.yspec.specs.Forest.{size}
use Rattle.yspec.specs.linking.Keyword.{same_keyword, choice_word, case_word, uses_word}
use Rattle.yspec.specs.linking.Parts.{defines_node}
use Rattle.yspec.specs.linking.Source.{is_source_of}
use Rattle.yspec_wide.specs.NodeCounts.{counted_alone, counted_below}
use Rattle.ybase_preorder.specs.View.{row_by, label_by}
use Rattle.ybase_preorder.proofs.RowLemmas.{takes_by, takes_none_by}
use Rattle.ybase_words.specs.KeywordView.{keyword_view}
use Rattle.yspec_wide.specs.Sources.{is_augment_in}
use Rattle.ylink_grammar.specs.LanguageView.{language_view}
use Rattle.ylink_grammar.specs.SourceView.{source_view}
use Rattle.ylink_grammar.specs.declared.source.Source.{Source}
use Rattle.yschema_expand.specs.Counting.{count_by, many}
use Rattle.yschema_expand.specs.NamedView.{language_of, modules_of}
use Rattle.yschema_expand.specs.Walk.{is_laid}
use Rattle.yschema_expand.proofs.CountLemmas.{row_none, row_first, alone_inner, alone_none, alone_laid, capped_next, capped_more, capped_single, capped_plain, capped_used, capped_few}
use Rattle.yschema_expand.proofs.counting.+counting.Goals as goal

pub count_nodes-loop-statement-preserved : goal.count_nodes-loop-statement-preserved
count_nodes-loop-statement-preserved t c =
    let l = language_of c.args.named.now in
    let meant = count_by c.args.counts.now (modules_of c.args.named.now) in
    let above = keyword_view c.args.above in
    let before = c.loop-statement.statement-iterator in
    let after = c.next.new.self in
    let s = label_by source_view c.in-Some.statement in
    let below = row_by source_view c.in-Some.statement.children in
    let rest = row_by source_view after in
    let taken = takes_by source_view before after c.in-Some.statement c.in-Some.ensures.steps in
    let first = counted_alone l meant above s (counted_below l meant s.keyword below) in
    let others = counted_below l meant above rest in
    let split = ap (counted_below l meant above) taken ∙ row_first l meant above s below rest in
    let sized = ap size c.in-Some.ensures.steps.0 in
    record {
      more = tt;
      ends = tt;
      smaller = omega (arith, sized, c.loop-statement.invariant.smaller);
      few = capped_few (c.loop-statement.count + c.count_statement.result) c.capped-count.result c.capped-count.ensures;
      so_far = capped_next c.loop-statement.count first others c.capped-count.result c.count_statement.result c.count_statement.ensures c.capped-count.ensures
          ∙ (ap (λ n. min (c.loop-statement.count + n) many) (sym split) ∙ c.loop-statement.invariant.so_far);
    }

pub count_nodes-returns : goal.count_nodes-returns
count_nodes-returns t c =
    let l = language_of c.args.named.now in
    let meant = count_by c.args.counts.now (modules_of c.args.named.now) in
    let above = keyword_view c.args.above in
    let before = c.loop-statement.statement-iterator in
    let none = (takes_none_by source_view before c.next.new.self c.in-None.ensures.steps).0 in
    let nothing : counted_below l meant above (row_by source_view before) ≡ 0 = ap (counted_below l meant above) none ∙ row_none l meant above in
    omega (arith, nothing, c.loop-statement.invariant.few, c.loop-statement.invariant.so_far)

pub count_statement-returns-then-is : goal.count_statement-returns-then-is
count_statement-returns-then-is t c =
    let l = language_of c.args.named.now in
    let meant = count_by c.args.counts.now (modules_of c.args.named.now) in
    let above = keyword_view c.args.above in
    let s = label_by source_view c.args.statement in
    let inner = counted_below l meant s.keyword (row_by source_view c.args.statement.children) in
    let used : same_keyword uses_word above ≡ true = sym c.is.ensures ∙ c.if-is.true in
    c.count_inner.ensures ∙ ap (λ n. min n many) (sym (alone_inner l meant above s inner used))

pub count_statement-returns-then-not-is_laid : goal.count_statement-returns-then-not-is_laid
count_statement-returns-then-not-is_laid t c =
    let l = language_of c.args.named.now in
    let meant = count_by c.args.counts.now (modules_of c.args.named.now) in
    let above = keyword_view c.args.above in
    let s = label_by source_view c.args.statement in
    let inner = counted_below l meant s.keyword (row_by source_view c.args.statement.children) in
    let unused : same_keyword uses_word above ≡ false = sym c.is.ensures ∙ c.if-is.false in
    let other : is_laid s ≡ false = sym c.is_laid.ensures ∙ c.if-not-is_laid.true in
    let nothing = alone_none l meant above s inner unused other in
    omega (arith, nothing)

pub count_statement-returns-then-is_single : goal.count_statement-returns-then-is_single
count_statement-returns-then-is_single t c =
    let l = language_of c.args.named.now in
    let meant = count_by c.args.counts.now (modules_of c.args.named.now) in
    let above = keyword_view c.args.above in
    let s = label_by source_view c.args.statement in
    let inner = counted_below l meant s.keyword (row_by source_view c.args.statement.children) in
    let unused : same_keyword uses_word above ≡ false = sym c.is.ensures ∙ c.if-is.false in
    let is : is_laid s ≡ true = sym c.is_laid.ensures ∙ c.if-not-is_laid.false in
    let single : (same_keyword choice_word above && not (is_source_of case_word s)) ≡ true =
    ap (λ b. b && not (is_source_of case_word s)) (sym c.is-2.ensures) ∙ (sym c.is_single.ensures ∙ c.if-is_single.true) in
    capped_single (counted_alone l meant above s inner) (cond (defines_node s.keyword) (suc inner) (meant s + inner)) c.count_alone-nodes.result c.capped.result
    (alone_laid l meant above s inner unused is true single) c.count_alone-nodes.ensures c.capped.ensures

pub count_statement-returns-else-is_single : goal.count_statement-returns-else-is_single
count_statement-returns-else-is_single t c =
    let l = language_of c.args.named.now in
    let meant = count_by c.args.counts.now (modules_of c.args.named.now) in
    let above = keyword_view c.args.above in
    let s = label_by source_view c.args.statement in
    let inner = counted_below l meant s.keyword (row_by source_view c.args.statement.children) in
    let unused : same_keyword uses_word above ≡ false = sym c.is.ensures ∙ c.if-is.false in
    let is : is_laid s ≡ true = sym c.is_laid.ensures ∙ c.if-not-is_laid.false in
    let single : (same_keyword choice_word above && not (is_source_of case_word s)) ≡ false =
    ap (λ b. b && not (is_source_of case_word s)) (sym c.is-2.ensures) ∙ (sym c.is_single.ensures ∙ c.if-is_single.false) in
    capped_plain (counted_alone l meant above s inner) (cond (defines_node s.keyword) (suc inner) (meant s + inner)) c.count_alone-nodes.result
    (alone_laid l meant above s inner unused is false single) c.count_alone-nodes.ensures

pub count_inner-returns-then-is_augment : goal.count_inner-returns-then-is_augment
count_inner-returns-then-is_augment t c =
    let l = language_of c.args.named.now in
    let meant = count_by c.args.counts.now (modules_of c.args.named.now) in
    let s = label_by source_view c.args.statement in
    let inner = counted_below l meant s.keyword (row_by source_view c.args.statement.children) in
    let is : is_augment_in l s ≡ true = ap (λ x. is_augment_in x s) (sym c.language.ensures)
    ∙ (ap (λ d. is_augment_in (language_view c.language.result.now) (source_view c.args.statement.number d)) (sym c.label-label.ensures)
    ∙ (sym (c.is_augment.ensures c.args.statement.number) ∙ c.if-is_augment.true)) in
    c.count_nodes.ensures
    ∙ (ap₂ (λ (d : Source) r. min (counted_below l meant (keyword_view d.keyword) (row_by source_view r)) many) c.label-label.ensures c.children.ensures
    ∙ ap (λ b. min (cond b inner 0) many) (sym is))

pub count_inner-returns-else-is_augment : goal.count_inner-returns-else-is_augment
count_inner-returns-else-is_augment t c =
    let l = language_of c.args.named.now in
    let meant = count_by c.args.counts.now (modules_of c.args.named.now) in
    let s = label_by source_view c.args.statement in
    let inner = counted_below l meant s.keyword (row_by source_view c.args.statement.children) in
    let is : is_augment_in l s ≡ false = ap (λ x. is_augment_in x s) (sym c.language.ensures)
    ∙ (ap (λ d. is_augment_in (language_view c.language.result.now) (source_view c.args.statement.number d)) (sym c.label-label.ensures)
    ∙ (sym (c.is_augment.ensures c.args.statement.number) ∙ c.if-is_augment.false)) in
    let nothing : cond (is_augment_in l s) inner 0 ≡ 0 = ap (λ b. cond b inner 0) is in
    omega (arith, nothing)

pub count_alone-returns-then-defines_node : goal.count_alone-returns-then-defines_node
count_alone-returns-then-defines_node t c =
    let l = language_of c.args.named.now in
    let meant = count_by c.args.counts.now (modules_of c.args.named.now) in
    let s = label_by source_view c.args.statement in
    let inner = counted_below l meant s.keyword (row_by source_view c.args.statement.children) in
    let is : defines_node s.keyword ≡ true = ap (λ (d : Source). defines_node (keyword_view d.keyword)) (sym c.label.ensures)
    ∙ (sym c.defines_node.ensures ∙ c.if-defines_node.true) in
    capped_more c.capped.result inner c.count_nodes-inner.result
    (c.count_nodes-inner.ensures ∙ ap₂ (λ (d : Source) r. min (counted_below l meant (keyword_view d.keyword) (row_by source_view r)) many) c.label.ensures c.children.ensures) c.capped.ensures
    ∙ ap (λ b. min (cond b (suc inner) (meant s + inner)) many) (sym is)

pub count_alone-returns-else-defines_node : goal.count_alone-returns-else-defines_node
count_alone-returns-else-defines_node t c =
    let l = language_of c.args.named.now in
    let meant = count_by c.args.counts.now (modules_of c.args.named.now) in
    let s = label_by source_view c.args.statement in
    let inner = counted_below l meant s.keyword (row_by source_view c.args.statement.children) in
    let is : defines_node s.keyword ≡ false = ap (λ (d : Source). defines_node (keyword_view d.keyword)) (sym c.label.ensures)
    ∙ (sym c.defines_node.ensures ∙ c.if-defines_node.false) in
    capped_used c.capped-else-defines_node.result inner (meant s) c.count_used.result c.count_nodes-inner.result c.count_used.ensures
    (c.count_nodes-inner.ensures ∙ ap₂ (λ (d : Source) r. min (counted_below l meant (keyword_view d.keyword) (row_by source_view r)) many) c.label.ensures c.children.ensures) c.capped-else-defines_node.ensures
    ∙ ap (λ b. min (cond b (suc inner) (meant s + inner)) many) (sym is)
