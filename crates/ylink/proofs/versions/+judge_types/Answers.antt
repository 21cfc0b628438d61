use Rattle.std.proofs.Common.{◌∷◌, [], ap, ◌∙◌, arith}
use Rattle.std.specs.List.{flat_map}
use Rattle.yspec.specs.Forest.{size}
use Rattle.yspec.specs.linking.Keyword.{type_word, same_keyword}
use Rattle.yspec.specs.linking.Scopes.{placed}
use Rattle.yspec.specs.schema.Breaks.{broken, least_from, when}
use Rattle.ybase_preorder.specs.View.{row_by, label_by}
use Rattle.ybase_preorder.proofs.RowLemmas.{takes_by, takes_none_by}
use Rattle.ybase_words.specs.KeywordView.{keyword_view}
use Rattle.ytext.specs.View as text
use Rattle.ylink_grammar.specs.BreakView.{break_view, seen}
use Rattle.ylink_grammar.specs.SourceView.{source_view}
use Rattle.ylink_grammar.specs.declared.source.Source.{Source}
use Rattle.ylink_features.proofs.WalkedLemmas.{next_walked, all_walked}
use Rattle.ylink.specs.EmptyView.{is_wrong_by, wrong_break}
use Rattle.ylink.specs.VerdictView.{table_view}
use Rattle.ylink.proofs.versions.+judge_types.Goals as goal

pub loop-statement-preserved : goal.loop-statement-preserved
loop-statement-preserved t c =
    let taken = c.in-Some.ensures.steps in
    let before = c.loop-statement.statement-iterator in
    let after = row_by source_view c.next.new.self in
    let node = c.in-Some.statement in
    let s = label_by source_view node in
    let below = row_by source_view node.children in
    let sized = ap size taken.0 in
    let told = seen c.loop-statement.told in
    let own = seen c.least_when-own.result in
    let table = table_view c.args.verdicts.now in
    let wrong = c.in_ok-wrong.wrong in
    record {
      more = tt;
      ends = tt;
      smaller = omega (arith, sized, c.loop-statement.invariant.smaller);
      so_far = λ language modules ancestors are bare in_union.
          let breaks = wrong_break language modules table in
          next_walked breaks ancestors s below after (row_by source_view before) told own (seen c.in_ok-told.told) _
          (takes_by source_view before c.next.new.self node taken)
          (c.least_when-own.ensures ∙ (ap (λ b. least_from told (when wrong (break_view b ∷ []))) c.broken-rule.ensures
          ∙ (ap (λ (l : Source). least_from told (when wrong (broken 10 l.home (text.view l.statement.now).0.line))) c.label-source.ensures
          ∙ (ap (λ b. least_from told (when b (broken 10 s.home s.statement.line))) (c.in_ok-wrong.ensures language modules are bare)
          ∙ ap (λ u. least_from told (when (is_wrong_by language modules table u s below) (broken 10 s.home s.statement.line))) in_union))))
          (c.in_ok-told.ensures language modules ((s, below) ∷ ancestors) are bare
          (c.is-is_type.ensures ∙ ap (λ (l : Source). same_keyword type_word (keyword_view l.keyword)) c.label-source.ensures)
          ∙ ap (λ n. least_from own (flat_map breaks (placed ((s, below) ∷ ancestors) (row_by source_view n)))) c.children.ensures)
          (c.loop-statement.invariant.so_far language modules ancestors are bare in_union);
    }

pub returns : goal.returns
returns t c language modules ancestors are bare in_union =
    let before = c.loop-statement.statement-iterator in
    let ended = (takes_none_by source_view before c.next.new.self c.in-None.ensures.steps).0 in
    all_walked (wrong_break language modules (table_view c.args.verdicts.now)) ancestors (row_by source_view before) (seen c.loop-statement.told) _ ended
    (c.loop-statement.invariant.so_far language modules ancestors are bare in_union)
