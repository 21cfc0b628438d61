use Rattle.std.proofs.Common.{◌≡◌, ◌∷◌, ◌++◌, ap, ◌∙◌, arith, map}
use Rattle.std.specs.List.{flat_map}
use Rattle.yspec.specs.Forest.{size}
use Rattle.yspec.specs.linking.Scopes.{placed}
use Rattle.ybase_preorder.specs.View.{row_by, label_by}
use Rattle.ybase_preorder.proofs.RowLemmas.{takes_by, takes_none_by}
use Rattle.ylink_grammar.specs.LanguageView.{language_view}
use Rattle.ylink_grammar.specs.SourceView.{source_view}
use Rattle.ylink_features.specs.AskedView.{asked_by, asked_of, asked_view}
use Rattle.ylink_features.proofs.AskedLemmas.{next_listed, all_listed}
use Rattle.ylink_features.proofs.asked.+add_asked.Goals as goal

pub loop-statement-preserved : goal.loop-statement-preserved
loop-statement-preserved t c =
    let taken = c.in-Some.ensures.steps in
    let before = c.loop-statement.statement-iterator in
    let after = row_by source_view c.next.new.self in
    let node = c.in-Some.statement in
    let s = label_by source_view node in
    let below = row_by source_view node.children in
    let sized = ap size taken.0 in
    let first = takes_by source_view before c.next.new.self node taken in
    let language = language_view c.args.meaning.now.language.now in
    let so_far = map asked_view c.loop-statement.made.items in
    let mid = map asked_view c.add_one.new.made.items in
    let more = map asked_view c.add_asked.new.made.items in
    record {
      more = tt;
      ends = tt;
      smaller = omega (arith, sized, c.loop-statement.invariant.smaller);
      made = λ modules ancestors means above.
          let inside = (s, below) ∷ ancestors in
          let own : mid ≡ so_far ++ asked_by language modules c.args.above s =
          c.in_ok-add_one.ensures modules node.number means ∙ ap (λ l. so_far ++ asked_by language modules c.args.above (source_view node.number l)) c.label.ensures in
          let inner : more ≡ mid ++ flat_map (asked_of language modules) (placed inside below) =
          c.in_ok-add_asked.ensures modules inside means c.feature_number-inner.ensures
          ∙ ap (λ n. mid ++ flat_map (asked_of language modules) (placed inside (row_by source_view n))) c.children.ensures in
          next_listed (asked_of language modules) ancestors s below after (row_by source_view before) so_far mid more _ first
          (own ∙ ap (λ a. so_far ++ asked_by language modules a s) above) inner (c.loop-statement.invariant.made modules ancestors means above);
    }

pub returns : goal.returns
returns t c modules ancestors means above =
    let before = c.loop-statement.statement-iterator in
    let language = language_view c.args.meaning.now.language.now in
    let ended = (takes_none_by source_view before c.next.new.self c.in-None.ensures.steps).0 in
    all_listed (asked_of language modules) ancestors (row_by source_view before) (map asked_view c.loop-statement.made.items) _ ended
    (c.loop-statement.invariant.made modules ancestors means above)
