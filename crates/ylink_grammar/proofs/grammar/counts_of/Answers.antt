use Rattle.std.proofs.Common.{◌≡◌, ◌+◌, false, cond, length, get_or, sym, ap, ◌∙◌, arith}
use Rattle.std.specs.Prelude.{option_map, slice_set}
use Rattle.std.specs.Option.{option_map_or}
use Rattle.std.proofs.lemmas.List.{length-set}
use Rattle.std.proofs.lemmas.Option.{unwrap_or-slice_get}
use Rattle.yspec.specs.linking.Keyword.{Keyword, keyword_number, keyword_named, same_keyword}
use Rattle.yspec.specs.linking.StatementBreaks.{occurrences}
use Rattle.ytext.specs.View.{row_view}
use Rattle.ylink_grammar.specs.Counts.{count_at}
use Rattle.ybase_words.specs.KeywordView.{keyword_view}
use Rattle.ylink_grammar.proofs.GrammarLemmas.{counts_more, few_more, one_more}
use Rattle.ylink_grammar.proofs.grammar.counts_of.Goals as goal
use Rattle.ylink_grammar.proofs.grammar.counts_of.Goals.{in-Some, in_default}

pub overflow_add-counts : goal.overflow_add-counts
overflow_add-counts c =
    let counts = c.loop-statement.counts in
    let j = keyword_view c.in-Some.keyword in
    let few = c.loop-statement.invariant.few j in
    let is : get_or counts c.number.result 0 ≡ count_at counts j =
    ap (λ n. get_or counts n 0) c.number.ensures ∙ sym (unwrap_or-slice_get counts (keyword_number j) 0) in
    omega (arith, is, few)

pub loop-statement-preserved : goal.loop-statement-preserved
loop-statement-preserved c =
    let counts = c.loop-statement.counts in
    let more = c.match-named.counts in
    let named = option_map keyword_view c.named.result in
    let each : (k : Keyword) → count_at more k ≡ cond (option_map_or (same_keyword k) named false) (count_at counts k + 1) (count_at counts k) =
    elim c.match-named.branch [
      | in-Some w ↦ λ k. ap (λ xs. count_at xs k) (w.counts-is ∙ ap (λ n. slice_set counts n (get_or counts n 0 + 1)) w.number.ensures)
          ∙ (one_more counts (keyword_view w.in-Some.keyword) k c.loop-statement.invariant.long
          ∙ ap (λ o. cond (option_map_or (same_keyword k) (option_map keyword_view o) false) (count_at counts k + 1) (count_at counts k)) (sym w.in-Some.is))
      | in_default w ↦ λ k. ap (λ xs. count_at xs k) w.counts-is
          ∙ ap (λ o. cond (option_map_or (same_keyword k) (option_map keyword_view o) false) (count_at counts k + 1) (count_at counts k)) (sym w.in_default.is)
    ] in
    record {
      long = elim c.match-named.branch [
        | in-Some w ↦ ap length w.counts-is ∙ (length-set counts w.number.result (get_or counts w.number.result 0 + 1) ∙ c.loop-statement.invariant.long)
        | in_default w ↦ ap length w.counts-is ∙ c.loop-statement.invariant.long
      ];
      counted = counts_more counts more named c.args.statements.now c.loop-statement.statement-index c.statement-item.result (λ k. occurrences k (row_view c.args.statements.now))
          c.loop-statement-test.true c.statement-item.is (c.named.ensures ∙ ap keyword_named c.keyword.ensures) each c.loop-statement.invariant.counted;
      few = λ k. few_more (option_map_or (same_keyword k) named false) (count_at more k) (count_at counts k) c.loop-statement.statement-index (each k) (c.loop-statement.invariant.few k);
    }
