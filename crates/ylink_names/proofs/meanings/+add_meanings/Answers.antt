use Rattle.std.proofs.Common.{◌≡◌, ◌∷◌, ◌++◌, ap, ◌∙◌, arith, map}
use Rattle.yspec.specs.Forest.{size, row}
use Rattle.yspec.specs.linking.Scopes.{placed}
use Rattle.ybase_preorder.specs.View.{row_by, label_by}
use Rattle.ybase_preorder.proofs.RowLemmas.{takes_by, takes_none_by}
use Rattle.ylink_grammar.specs.SourceView.{source_view}
use Rattle.ylink_names.specs.DefinitionView.{AreIn, kind_word, first_number}
use Rattle.ylink_names.specs.MeaningView.{number_meant}
use Rattle.ylink_names.specs.ScopeView.{placed_at}
use Rattle.ylink_names.proofs.MeaningLemmas.{next_meant, all_meant}
use Rattle.ylink_names.proofs.meanings.+add_meanings.Goals as goal

pub loop-statement-preserved-in_ok-add_meanings : goal.loop-statement-preserved-in_ok-add_meanings
loop-statement-preserved-in_ok-add_meanings t c =
    let taken = c.in-Some.ensures.steps in
    let before = c.loop-statement.statement-iterator in
    let after = row_by source_view c.next.new.self in
    let s = label_by source_view c.in-Some.statement in
    let below = row_by source_view c.in-Some.statement.children in
    let sized = ap size taken.0 in
    let first = takes_by source_view before c.next.new.self c.in-Some.statement taken in
    let so_far = c.loop-statement.made.items in
    let mid = c.push.new.self.items in
    let own : AreIn c.in_ok-row.row below = λ kind name.
    c.in_ok-row.ensures kind name ∙ ap (λ n. first_number (kind_word kind) name (row (row_by source_view n))) c.children.ensures in
    record {
      more = tt;
      ends = tt;
      smaller = omega (arith, sized, c.loop-statement.invariant.smaller);
      made = λ set ancestors are around.
          let inside = (s, below) ∷ ancestors in
          let meant : c.meaning.result ≡ number_meant set (placed_at s below ancestors) =
          c.meaning.ensures set c.in-Some.statement.number below ancestors are around
          ∙ ap (λ l. number_meant set (placed_at (source_view c.in-Some.statement.number l) below ancestors)) c.label.ensures in
          let inner : c.add_meanings.new.made.items ≡ mid ++ map (number_meant set) (placed inside below) =
          c.in_ok-add_meanings.ensures set inside are (c.inside-inner.ensures s below ancestors own around)
          ∙ ap (λ n. mid ++ map (number_meant set) (placed inside (row_by source_view n))) c.children-in-loop-statement.ensures in
          next_meant (number_meant set) ancestors s below after (row_by source_view before) first so_far mid c.add_meanings.new.made.items _ c.meaning.result
          c.in_ok-push.ensures.items meant inner (c.loop-statement.invariant.made set ancestors are around);
    }

pub loop-statement-preserved : goal.loop-statement-preserved
loop-statement-preserved t c =
    let taken = c.in-Some.ensures.steps in
    let before = c.loop-statement.statement-iterator in
    let after = row_by source_view c.next.new.self in
    let s = label_by source_view c.in-Some.statement in
    let below = row_by source_view c.in-Some.statement.children in
    let sized = ap size taken.0 in
    let first = takes_by source_view before c.next.new.self c.in-Some.statement taken in
    let so_far = c.loop-statement.made.items in
    let mid = c.push.new.self.items in
    let own : AreIn c.in_ok-row.row below = λ kind name.
    c.in_ok-row.ensures kind name ∙ ap (λ n. first_number (kind_word kind) name (row (row_by source_view n))) c.children.ensures in
    record {
      more = tt;
      ends = tt;
      smaller = omega (arith, sized, c.loop-statement.invariant.smaller);
      made = λ set ancestors are around.
          let inside = (s, below) ∷ ancestors in
          let meant : c.meaning.result ≡ number_meant set (placed_at s below ancestors) =
          c.meaning.ensures set c.in-Some.statement.number below ancestors are around
          ∙ ap (λ l. number_meant set (placed_at (source_view c.in-Some.statement.number l) below ancestors)) c.label.ensures in
          let inner : c.add_meanings.new.made.items ≡ mid ++ map (number_meant set) (placed inside below) =
          c.in_ok-add_meanings.ensures set inside are (c.inside-inner.ensures s below ancestors own around)
          ∙ ap (λ n. mid ++ map (number_meant set) (placed inside (row_by source_view n))) c.children-in-loop-statement.ensures in
          next_meant (number_meant set) ancestors s below after (row_by source_view before) first so_far mid c.add_meanings.new.made.items _ c.meaning.result
          c.in_ok-push.ensures.items meant inner (c.loop-statement.invariant.made set ancestors are around);
    }

pub returns : goal.returns
returns t c set ancestors are around =
    let before = c.loop-statement.statement-iterator in
    let ended = (takes_none_by source_view before c.next.new.self c.in-None.ensures.steps).0 in
    all_meant (number_meant set) ancestors (row_by source_view before) c.loop-statement.made.items _ ended (c.loop-statement.invariant.made set ancestors are around)
