use Rattle.std.proofs.Common.{◌≡◌, true, false, not, ap, ap₂, sym, ◌∙◌, rules, arith, map}
use Rattle.std.proofs.lemmas.List.{map_push}
use Rattle.yspec.specs.Forest.{size}
use Rattle.yspec.specs.linking.Keyword.{same_keyword, type_word}
use Rattle.yspec_wide.specs.Types.{verdict_of, verdicts_of}
use Rattle.ybase_preorder.specs.View.{row_by, label_by}
use Rattle.ybase_preorder.proofs.RowLemmas.{takes_by, takes_none_by}
use Rattle.ybase_words.specs.KeywordView.{keyword_view}
use Rattle.ylink_grammar.specs.LinkView.{view}
use Rattle.ylink_grammar.specs.SourceView.{source_view}
use Rattle.ylink_values.specs.KeptView.{kept_view}
use Rattle.ylink_types.specs.TypeView.{verdict_view}
use Rattle.ylink_types.specs.TypedefView.{verdicts_in}
use Rattle.ylink_types.proofs.TypeLemmas.{one_judged, none_judged, judged_step, no_verdict, next_verdict, no_more_verdicts}
use Rattle.ylink_types.proofs.types.+member_verdicts.Goals as goal

pub loop-statement-preserved-then-not-is : goal.loop-statement-preserved-then-not-is
loop-statement-preserved-then-not-is t c =
    let kept = kept_view c.args.kept in
    let modules = view c.args.sources.now in
    let named = verdicts_in c.args.typedefs.now in
    let taken = c.in-Some.ensures.steps in
    let before = row_by source_view c.loop-statement.statement-iterator in
    let after = row_by source_view c.next.new.self in
    let s = label_by source_view c.in-Some.statement in
    let below = row_by source_view c.in-Some.statement.children in
    let sized = ap size taken.0 in
    let first = takes_by source_view c.loop-statement.statement-iterator c.next.new.self c.in-Some.statement taken in
    let keyword : c.is.result ≡ same_keyword type_word s.keyword =
    c.is.ensures ∙ ap (λ l. same_keyword type_word (keyword_view l.keyword)) c.label.ensures in
    let other : same_keyword type_word s.keyword ≡ false = sym keyword ∙ first_of (search rules, cc) in
    record {
      more = tt;
      ends = tt;
      smaller = omega (arith, sized, c.loop-statement.invariant.smaller);
      verdicts = no_verdict (one_judged kept modules named) (verdicts_of kept modules named) (none_judged kept modules named) (judged_step kept modules named) s below after before first (map verdict_view c.loop-statement.found.items) _ other c.loop-statement.invariant.verdicts;
    }

pub loop-statement-preserved : goal.loop-statement-preserved
loop-statement-preserved t c =
    let kept = kept_view c.args.kept in
    let modules = view c.args.sources.now in
    let named = verdicts_in c.args.typedefs.now in
    let taken = c.in-Some.ensures.steps in
    let before = row_by source_view c.loop-statement.statement-iterator in
    let after = row_by source_view c.next.new.self in
    let s = label_by source_view c.in-Some.statement in
    let below = row_by source_view c.in-Some.statement.children in
    let sized = ap size taken.0 in
    let first = takes_by source_view c.loop-statement.statement-iterator c.next.new.self c.in-Some.statement taken in
    let keyword : c.is.result ≡ same_keyword type_word s.keyword =
    c.is.ensures ∙ ap (λ l. same_keyword type_word (keyword_view l.keyword)) c.label.ensures in
    let is_type : c.is.result ≡ true = first_of (search rules, cc) in
    let members : map verdict_view c.in_ok-members.members.items ≡ verdicts_of kept modules named below =
    c.in_ok-members.ensures ∙ ap (λ n. verdicts_of kept modules named (row_by source_view n)) c.children.ensures in
    record {
      more = tt;
      ends = tt;
      smaller = omega (arith, sized, c.loop-statement.invariant.smaller);
      verdicts = next_verdict (one_judged kept modules named) (verdicts_of kept modules named) (none_judged kept modules named) (judged_step kept modules named) s below after before first (map verdict_view c.loop-statement.found.items) _ (verdict_view c.in_ok-judged.judged) _ (sym keyword ∙ is_type)
          (ap (map verdict_view) c.in_ok-push.ensures.items ∙ map_push verdict_view c.loop-statement.found.items c.in_ok-judged.judged)
          (c.in_ok-judged.ensures ∙ ap₂ (λ l ms. verdict_of kept modules named (not l.may_refer) s below ms) c.label-in-loop-statement.ensures members) c.loop-statement.invariant.verdicts;
    }

pub returns : goal.returns
returns t c =
    let before = c.loop-statement.statement-iterator in
    let ended = (takes_none_by source_view before c.next.new.self c.in-None.ensures.steps).0 in
    let kept = kept_view c.args.kept in
    let modules = view c.args.sources.now in
    let named = verdicts_in c.args.typedefs.now in
    no_more_verdicts (one_judged kept modules named) (verdicts_of kept modules named) (none_judged kept modules named) (judged_step kept modules named) (row_by source_view before) (map verdict_view c.loop-statement.found.items) _ ended c.loop-statement.invariant.verdicts
