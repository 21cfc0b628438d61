use Rattle.std.proofs.Common.{rules, ◌≡◌, ◌∷◌, [], true, false, arith, sym, ap, ◌∙◌}
use Rattle.yspec.specs.Forest.{size}
use Rattle.yspec.specs.linking.Expansion.{all_refine_breaks}
use Rattle.yspec.specs.linking.Keyword.{same_keyword, uses_word}
use Rattle.yspec.specs.linking.Source.{is_source_of}
use Rattle.yspec.specs.schema.Breaks.{broken, least_from}
use Rattle.yspec_wide.specs.Sources.{is_augment_in}
use Rattle.ybase_preorder.specs.View.{row_by, label_by}
use Rattle.ybase_preorder.proofs.RowLemmas.{takes_by, takes_none_by}
use Rattle.ybase_words.specs.KeywordView.{keyword_view}
use Rattle.ylink_grammar.specs.BreakView.{seen}
use Rattle.ylink_grammar.specs.LanguageView.{language_view}
use Rattle.ylink_grammar.specs.SourceView.{source_view}
use Rattle.yschema_expand.specs.Counting.{refine_by, told_list, top_breaks}
use Rattle.yschema_expand.specs.NamedView.{language_of, modules_of}
use Rattle.yschema_expand.proofs.EmptiedLemmas.{top_none, top_uses, top_augment, least_three, least_two}
use Rattle.yschema_expand.proofs.groupings.+emptied.Goals as goal

pub least_used-loop-statement-preserved-then-is : goal.least_used-loop-statement-preserved-then-is
least_used-loop-statement-preserved-then-is t c =
    let l = language_of c.args.named.now in
    let told = refine_by c.args.refines.now (modules_of c.args.named.now) in
    let before = c.loop-statement.statement-iterator in
    let after = c.next.new.self in
    let s = label_by source_view c.in-Some.statement in
    let below = row_by source_view c.in-Some.statement.children in
    let rest = row_by source_view after in
    let taken = takes_by source_view before after c.in-Some.statement c.in-Some.ensures.steps in
    let used : is_source_of uses_word s ≡ true = sym (c.is.ensures ∙ ap (λ d. same_keyword uses_word (keyword_view d.keyword)) c.label.ensures) ∙ c.if-is.true in
    let so_far = seen c.loop-statement.told in
    let sized = ap size c.in-Some.ensures.steps.0 in
    record {
      more = tt;
      ends = tt;
      smaller = omega (arith, sized, c.loop-statement.invariant.smaller);
      so_far = least_three so_far (seen c.least_of-told.result) (seen c.least_inner-told.result) (seen c.least_refine-told.result)
          (told_list (told s.number)) (top_breaks l told true below) (all_refine_breaks below) (top_breaks l told false rest)
          (c.least_of-told.ensures ∙ ap (λ o. least_from so_far (told_list o)) (c.refine_used.ensures ∙ ap told c.number.ensures))
          (c.least_inner-told.ensures ∙ ap (λ r. least_from (seen c.least_of-told.result) (top_breaks l told true (row_by source_view r))) c.children.ensures)
          (c.least_refine-told.ensures ∙ ap (λ r. least_from (seen c.least_inner-told.result) (all_refine_breaks (row_by source_view r))) c.children-then-is.ensures)
          ∙ (sym (ap (λ f. least_from so_far (top_breaks l told false f)) taken ∙ ap (least_from so_far) (top_uses l told s below rest true used))
          ∙ c.loop-statement.invariant.so_far);
    }

pub least_used-loop-statement-preserved : goal.least_used-loop-statement-preserved
least_used-loop-statement-preserved t c =
    let l = language_of c.args.named.now in
    let told = refine_by c.args.refines.now (modules_of c.args.named.now) in
    let before = c.loop-statement.statement-iterator in
    let after = c.next.new.self in
    let s = label_by source_view c.in-Some.statement in
    let below = row_by source_view c.in-Some.statement.children in
    let rest = row_by source_view after in
    let taken = takes_by source_view before after c.in-Some.statement c.in-Some.ensures.steps in
    let used : is_source_of uses_word s ≡ false = sym (c.is.ensures ∙ ap (λ d. same_keyword uses_word (keyword_view d.keyword)) c.label.ensures) ∙ c.if-is.false in
    let so_far = seen c.loop-statement.told in
    let sized = ap size c.in-Some.ensures.steps.0 in
    record {
      more = tt;
      ends = tt;
      smaller = omega (arith, sized, c.loop-statement.invariant.smaller);
      so_far = sym (ap (λ f. least_from so_far (top_breaks l told false f)) taken ∙ ap (least_from so_far) (top_uses l told s below rest false used))
          ∙ c.loop-statement.invariant.so_far;
    }

pub least_used-returns : goal.least_used-returns
least_used-returns t c =
    let l = language_of c.args.named.now in
    let told = refine_by c.args.refines.now (modules_of c.args.named.now) in
    let none = (takes_none_by source_view c.loop-statement.statement-iterator c.next.new.self c.in-None.ensures.steps).0 in
    sym (ap (least_from (seen c.loop-statement.told)) (ap (top_breaks l told false) none ∙ top_none l told false)) ∙ c.loop-statement.invariant.so_far

pub least_inner-loop-statement-preserved-then-is_augment : goal.least_inner-loop-statement-preserved-then-is_augment
least_inner-loop-statement-preserved-then-is_augment t c =
    let l = language_of c.args.named.now in
    let told = refine_by c.args.refines.now (modules_of c.args.named.now) in
    let before = c.loop-statement.statement-iterator in
    let after = c.next.new.self in
    let s = label_by source_view c.in-Some.statement in
    let below = row_by source_view c.in-Some.statement.children in
    let rest = row_by source_view after in
    let taken = takes_by source_view before after c.in-Some.statement c.in-Some.ensures.steps in
    let is : is_augment_in l s ≡ true = ap (λ x. is_augment_in x s) (sym c.language.ensures)
    ∙ (ap (λ d. is_augment_in (language_view c.language.result.now) (source_view c.in-Some.statement.number d)) (sym c.label-source.ensures)
    ∙ (sym (c.is_augment.ensures c.in-Some.statement.number) ∙ c.if-is_augment.true)) in
    let so_far = seen c.loop-statement.told in
    let sized = ap size c.in-Some.ensures.steps.0 in
    record {
      more = tt;
      ends = tt;
      smaller = omega (arith, sized, c.loop-statement.invariant.smaller);
      so_far = least_two so_far (seen c.least_used.result) (seen c.least-told.result)
          (top_breaks l told false below) (broken 14 s.home s.statement.line) (top_breaks l told true rest)
          (c.least_used.ensures ∙ ap (λ r. least_from so_far (top_breaks l told false (row_by source_view r))) c.children.ensures)
          (c.least-told.ensures ∙ ap (λ b. least_from (seen c.least_used.result) (b ∷ [])) (search rules))
          ∙ (sym (ap (λ f. least_from so_far (top_breaks l told true f)) taken ∙ ap (least_from so_far) (top_augment l told s below rest true is))
          ∙ c.loop-statement.invariant.so_far);
    }

pub least_inner-loop-statement-preserved : goal.least_inner-loop-statement-preserved
least_inner-loop-statement-preserved t c =
    let l = language_of c.args.named.now in
    let told = refine_by c.args.refines.now (modules_of c.args.named.now) in
    let before = c.loop-statement.statement-iterator in
    let after = c.next.new.self in
    let s = label_by source_view c.in-Some.statement in
    let below = row_by source_view c.in-Some.statement.children in
    let rest = row_by source_view after in
    let taken = takes_by source_view before after c.in-Some.statement c.in-Some.ensures.steps in
    let is : is_augment_in l s ≡ false = ap (λ x. is_augment_in x s) (sym c.language.ensures)
    ∙ (ap (λ d. is_augment_in (language_view c.language.result.now) (source_view c.in-Some.statement.number d)) (sym c.label-source.ensures)
    ∙ (sym (c.is_augment.ensures c.in-Some.statement.number) ∙ c.if-is_augment.false)) in
    let so_far = seen c.loop-statement.told in
    let sized = ap size c.in-Some.ensures.steps.0 in
    record {
      more = tt;
      ends = tt;
      smaller = omega (arith, sized, c.loop-statement.invariant.smaller);
      so_far = sym (ap (λ f. least_from so_far (top_breaks l told true f)) taken ∙ ap (least_from so_far) (top_augment l told s below rest false is))
          ∙ c.loop-statement.invariant.so_far;
    }

pub least_inner-returns : goal.least_inner-returns
least_inner-returns t c =
    let l = language_of c.args.named.now in
    let told = refine_by c.args.refines.now (modules_of c.args.named.now) in
    let none = (takes_none_by source_view c.loop-statement.statement-iterator c.next.new.self c.in-None.ensures.steps).0 in
    sym (ap (least_from (seen c.loop-statement.told)) (ap (top_breaks l told true) none ∙ top_none l told true)) ∙ c.loop-statement.invariant.so_far
