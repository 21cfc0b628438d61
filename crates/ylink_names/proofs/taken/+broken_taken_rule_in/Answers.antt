use Rattle.std.proofs.Common.{◌≡◌, ◌∷◌, [], ap, ◌∙◌, arith}
use Rattle.std.specs.List.{flat_map}
use Rattle.yspec.specs.Forest.{size}
use Rattle.yspec.specs.linking.Scopes.{placed, taken_break, is_taken}
use Rattle.yspec.specs.schema.Breaks.{least_from, when, broken}
use Rattle.ytext.specs.View as text
use Rattle.ybase_preorder.specs.View.{row_by, label_by}
use Rattle.ybase_preorder.proofs.RowLemmas.{takes_by, takes_none_by}
use Rattle.ylink_grammar.specs.BreakView.{seen}
use Rattle.ylink_grammar.specs.SourceView.{source_view}
use Rattle.ylink_names.specs.DefinitionView.{AreIn}
use Rattle.ylink_names.specs.ScopeView.{placed_at}
use Rattle.ylink_names.proofs.ScopeLemmas.{next_placed, all_placed}
use Rattle.ylink_names.proofs.taken.+broken_taken_rule_in.Goals as goal

pub loop-statement-preserved-in_ok-told : goal.loop-statement-preserved-in_ok-told
loop-statement-preserved-in_ok-told t c =
    let taken = c.in-Some.ensures.steps in
    let before = c.loop-statement.statement-iterator in
    let after = row_by source_view c.next.new.self in
    let s = label_by source_view c.in-Some.statement in
    let below = row_by source_view c.in-Some.statement.children in
    let sized = ap size taken.0 in
    let first = takes_by source_view before c.next.new.self c.in-Some.statement taken in
    let so_far = seen c.loop-statement.told in
    let mid = seen c.judge_taken-told.result in
    let own : AreIn c.in_ok-row.row below = λ kind name. c.in_ok-row.ensures kind name ∙ cc in
    record {
      more = tt;
      ends = tt;
      smaller = omega (arith, sized, c.loop-statement.invariant.smaller);
      told = λ ancestors around.
          let p = placed_at s below ancestors in
          let inside = (s, below) ∷ ancestors in
          let label = c.label-source.result.now in
          let judged : c.is_taken-taken.result ≡ is_taken p =
          c.is_taken-taken.ensures ancestors below around
          ∙ (ap (λ n. is_taken (placed_at (source_view n label) below ancestors)) c.number.ensures
          ∙ ap (λ l. is_taken (placed_at (source_view c.in-Some.statement.number l) below ancestors)) c.label-source.ensures) in
          let here : mid ≡ least_from so_far (taken_break p) =
          c.judge_taken-told.ensures
          ∙ (ap (λ w. least_from so_far (when w (broken 7 label.home (text.view label.statement.now).0.line))) judged
          ∙ ap (λ l. least_from so_far (when (is_taken p) (broken 7 l.home (text.view l.statement.now).0.line))) c.label-source.ensures) in
          let inner : seen c.in_ok-told.told ≡ least_from mid (flat_map taken_break (placed inside below)) =
          c.in_ok-told.ensures inside (c.inside-inner.ensures s below ancestors own around)
          ∙ ap (λ n. least_from mid (flat_map taken_break (placed inside (row_by source_view n)))) c.children-in-loop-statement.ensures in
          next_placed taken_break ancestors s below after (row_by source_view before) first so_far mid (seen c.in_ok-told.told) _ here inner
          (c.loop-statement.invariant.told ancestors around);
    }

pub loop-statement-preserved : goal.loop-statement-preserved
loop-statement-preserved t c =
    let taken = c.in-Some.ensures.steps in
    let before = c.loop-statement.statement-iterator in
    let after = row_by source_view c.next.new.self in
    let s = label_by source_view c.in-Some.statement in
    let below = row_by source_view c.in-Some.statement.children in
    let sized = ap size taken.0 in
    let first = takes_by source_view before c.next.new.self c.in-Some.statement taken in
    let so_far = seen c.loop-statement.told in
    let mid = seen c.judge_taken-told.result in
    let own : AreIn c.in_ok-row.row below = λ kind name. c.in_ok-row.ensures kind name ∙ cc in
    record {
      more = tt;
      ends = tt;
      smaller = omega (arith, sized, c.loop-statement.invariant.smaller);
      told = λ ancestors around.
          let p = placed_at s below ancestors in
          let inside = (s, below) ∷ ancestors in
          let label = c.label-source.result.now in
          let judged : c.is_taken-taken.result ≡ is_taken p =
          c.is_taken-taken.ensures ancestors below around
          ∙ (ap (λ n. is_taken (placed_at (source_view n label) below ancestors)) c.number.ensures
          ∙ ap (λ l. is_taken (placed_at (source_view c.in-Some.statement.number l) below ancestors)) c.label-source.ensures) in
          let here : mid ≡ least_from so_far (taken_break p) =
          c.judge_taken-told.ensures
          ∙ (ap (λ w. least_from so_far (when w (broken 7 label.home (text.view label.statement.now).0.line))) judged
          ∙ ap (λ l. least_from so_far (when (is_taken p) (broken 7 l.home (text.view l.statement.now).0.line))) c.label-source.ensures) in
          let inner : seen c.in_ok-told.told ≡ least_from mid (flat_map taken_break (placed inside below)) =
          c.in_ok-told.ensures inside (c.inside-inner.ensures s below ancestors own around)
          ∙ ap (λ n. least_from mid (flat_map taken_break (placed inside (row_by source_view n)))) c.children-in-loop-statement.ensures in
          next_placed taken_break ancestors s below after (row_by source_view before) first so_far mid (seen c.in_ok-told.told) _ here inner
          (c.loop-statement.invariant.told ancestors around);
    }

pub returns : goal.returns
returns t c ancestors around =
    let before = c.loop-statement.statement-iterator in
    let ended = (takes_none_by source_view before c.next.new.self c.in-None.ensures.steps).0 in
    all_placed taken_break ancestors (row_by source_view before) (seen c.loop-statement.told) _ ended (c.loop-statement.invariant.told ancestors around)
