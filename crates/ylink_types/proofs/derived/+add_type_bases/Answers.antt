use Rattle.std.proofs.Common.{◌≡◌, ap, ap₂, ◌∙◌, arith, ◌++◌}
use Rattle.yspec.specs.Forest.{size}
use Rattle.yspec.specs.linking.Keyword.{same_keyword, type_word}
use Rattle.ybase_words.specs.KeywordView.{keyword_view}
use Rattle.ybase_preorder.specs.View.{row_by, label_by}
use Rattle.ybase_preorder.proofs.RowLemmas.{takes_by, takes_none_by}
use Rattle.ylink_grammar.specs.SourceView.{source_view}
use Rattle.ylink_names.specs.MeaningView.{meaning_at}
use Rattle.ylink_types.specs.DerivedView.{type_bases}
use Rattle.ylink_types.proofs.IdentityLemmas.{next_bases, all_bases}
use Rattle.ylink_types.proofs.derived.+add_type_bases.Goals as goal

pub loop-statement-preserved : goal.loop-statement-preserved
loop-statement-preserved t c =
    let taken = c.in-Some.ensures.steps in
    let before = c.loop-statement.statement-iterator in
    let after = row_by source_view c.next.new.self in
    let s = label_by source_view c.in-Some.statement in
    let below = row_by source_view c.in-Some.statement.children in
    let sized = ap size taken.0 in
    let first = takes_by source_view before c.next.new.self c.in-Some.statement taken in
    let named = meaning_at c.args.meanings.now in
    let is_type : c.is-is_type.result ≡ same_keyword type_word s.keyword =
    c.is-is_type.ensures ∙ ap (λ l. same_keyword type_word (keyword_view l.keyword)) c.label.ensures in
    record {
      more = tt;
      ends = tt;
      smaller = omega (arith, sized, c.loop-statement.invariant.smaller);
      made = next_bases named c.args.in_type s below after (row_by source_view before) first c.loop-statement.made.items
          c.add_base.new.made.items c.add_type_bases.new.made.items _ c.in_ok-add_base.ensures
          (c.in_ok-add_type_bases.ensures ∙ ap₂ (λ b n. c.add_base.new.made.items ++ type_bases named b (row_by source_view n)) is_type c.children.ensures)
          c.loop-statement.invariant.made;
    }

pub returns : goal.returns
returns t c =
    let before = c.loop-statement.statement-iterator in
    let ended = (takes_none_by source_view before c.next.new.self c.in-None.ensures.steps).0 in
    all_bases (meaning_at c.args.meanings.now) c.args.in_type (row_by source_view before) c.loop-statement.made.items _ ended c.loop-statement.invariant.made
