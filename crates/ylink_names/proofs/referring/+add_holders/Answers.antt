use Rattle.std.proofs.Common.{◌≡◌, ◌∷◌, ◌++◌, ap, ◌∙◌, arith, map}
use Rattle.std.specs.Prelude.{option_and_then}
use Rattle.yspec.specs.Forest.{size}
use Rattle.yspec.specs.linking.Circles.{referring}
use Rattle.yspec.specs.linking.Keyword.{typedef_word, grouping_word, identity_word}
use Rattle.yspec.specs.linking.Scopes.{placed, kind_named}
use Rattle.ybase_preorder.specs.View.{row_by, label_by}
use Rattle.ybase_preorder.proofs.RowLemmas.{takes_by, takes_none_by}
use Rattle.ybase_words.specs.KeywordView.{keyword_view}
use Rattle.ylink_grammar.specs.SourceView.{source_view}
use Rattle.ylink_names.specs.ReferringView.{innermost_of}
use Rattle.ylink_names.specs.ScopeView.{placed_at}
use Rattle.ylink_names.proofs.MeaningLemmas.{next_meant, all_meant}
use Rattle.ylink_names.proofs.ReferringLemmas.{below_one}
use Rattle.ylink_names.proofs.referring.+add_holders.Goals as goal

pub loop-statement-preserved : goal.loop-statement-preserved
loop-statement-preserved t c =
    let taken = c.in-Some.ensures.steps in
    let before = c.loop-statement.statement-iterator in
    let after = row_by source_view c.next.new.self in
    let s = label_by source_view c.in-Some.statement in
    let below = row_by source_view c.in-Some.statement.children in
    let sized = ap size taken.0 in
    let first = takes_by source_view before c.next.new.self c.in-Some.statement taken in
    let so_far = c.loop-statement.made.items in
    let mid = c.push.new.self.items in
    record {
      more = tt;
      ends = tt;
      smaller = omega (arith, sized, c.loop-statement.invariant.smaller);
      made = λ ancestors typedefs groupings identities.
          let inside = (s, below) ∷ ancestors in
          let held : c.holder_of.result ≡ referring (placed_at s below ancestors) =
          c.holder_of.ensures ancestors typedefs groupings identities
          ∙ ap (λ l. option_and_then (λ kind. innermost_of kind ancestors) (kind_named (keyword_view l.keyword))) c.label.ensures in
          let inner : c.add_holders.new.made.items ≡ mid ++ map referring (placed inside below) =
          c.in_ok-add_holders.ensures inside
          (below_one typedef_word s below ancestors c.args.typedef c.innermost_below-inner_typedef.result typedefs c.innermost_below-inner_typedef.ensures)
          (below_one grouping_word s below ancestors c.args.grouping c.innermost_below-inner_grouping.result groupings c.innermost_below-inner_grouping.ensures)
          (below_one identity_word s below ancestors c.args.identity c.innermost_below-inner_identity.result identities c.innermost_below-inner_identity.ensures)
          ∙ ap (λ n. mid ++ map referring (placed inside (row_by source_view n))) c.children.ensures in
          next_meant referring ancestors s below after (row_by source_view before) first so_far mid c.add_holders.new.made.items _ c.holder_of.result
          c.in_ok-push.ensures.items held inner (c.loop-statement.invariant.made ancestors typedefs groupings identities);
    }

pub returns : goal.returns
returns t c ancestors typedefs groupings identities =
    let before = c.loop-statement.statement-iterator in
    let ended = (takes_none_by source_view before c.next.new.self c.in-None.ensures.steps).0 in
    all_meant referring ancestors (row_by source_view before) c.loop-statement.made.items _ ended (c.loop-statement.invariant.made ancestors typedefs groupings identities)
