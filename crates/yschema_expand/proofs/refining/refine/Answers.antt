use Rattle.std.proofs.Common.{◌≡◌, true, subst, ◌++◌, ◌∙◌, ◌&&◌, not, sym, ap}
use Rattle.std.proofs.lemmas.Option.{IfSome_then}
use Rattle.yspec.specs.linking.Expansion.{is_refine}
use Rattle.yspec_wide.specs.Expansion.{after_refine_in, refined_in, refine_breaks_in, is_fit_in}
use Rattle.yspec.specs.schema.Breaks.{broken, least_from, when}
use Rattle.yspec.proofs.SchemaProofs.LeastLemmas.{least_of_both}
use Rattle.ybase_preorder.specs.Layout.{places}
use Rattle.ybase_preorder.specs.View.{row_by, label_by}
use Rattle.ybase_preorder.proofs.RowLemmas.{takes_by, takes_none_by}
use Rattle.ylink_grammar.specs.BreakView.{seen}
use Rattle.ylink_grammar.specs.LanguageView.{language_view}
use Rattle.ylink_grammar.specs.SourceView.{source_view}
use Rattle.yschema_expand.proofs.IndexedLemmas.{by_ref}
use Rattle.yschema_expand.proofs.RefineLemmas.{refined_first, refined_none}
use Rattle.yschema_given.specs.Keeping.{are_kept_right}
use Rattle.yschema_given.proofs.KeepingLemmas.{kept_parts}
use Rattle.yschema_expand.proofs.refining.refine.Goals as goal

pub loop-statement-preserved : goal.loop-statement-preserved
loop-statement-preserved c =
    let l = language_view c.args.language.now in
    let owner = c.args.owner in
    let before = c.loop-statement.statement-iterator in
    let after = c.next.new.self in
    let s = label_by source_view c.in-Some.statement in
    let given = row_by source_view c.in-Some.statement.children in
    let rest = row_by source_view after in
    let taken = takes_by source_view before after c.in-Some.statement c.in-Some.ensures.steps in
    record {
      more = tt;
      ends = tt;
      kept = (kept_parts l s given rest (subst (λ f. are_kept_right l f ≡ true) taken c.loop-statement.invariant.kept)).2;
      indexed = IfSome_then c.loop-statement.index-1 c.loop-statement.invariant.indexed (λ x holds. c.in_ok-apply.ensures.indexed x holds);
      so_far = λ modules nodes earlier parent of_it count at.
          let here = c.loop-statement.invariant.so_far modules nodes earlier parent of_it count at in
          let now = here.0 in
          let one = c.in_ok-apply.ensures.changes modules now of_it earlier parent count here.1 in
          let told = when (is_refine s && not (is_fit_in l modules owner s given now)) (broken 14 s.home s.statement.line) in
          let next = after_refine_in l modules owner s given now in (
            next,
            one.0,
            sym (refined_first l modules owner s given rest now) ∙ (ap (λ r. refined_in l modules owner r now) (sym taken) ∙ here.2),
            ap (λ o. least_from o (refine_breaks_in l modules owner rest next)) one.1
                ∙ (sym (least_of_both (seen c.loop-statement.made.told) told (refine_breaks_in l modules owner rest next))
                ∙ (ap (λ r. least_from (seen c.loop-statement.made.told) (refine_breaks_in l modules owner r now)) (sym taken) ∙ here.3)),
          );
    }

pub apply-requires-clause-kept : goal.apply-requires-clause-kept
apply-requires-clause-kept c =
    let l = language_view c.args.language.now in
    let after = c.next.new.self in
    let s = label_by source_view c.in-Some.statement in
    let given = row_by source_view c.in-Some.statement.children in
    let taken = takes_by source_view c.loop-statement.statement-iterator after c.in-Some.statement c.in-Some.ensures.steps in
    (kept_parts l s given (row_by source_view after) (subst (λ f. are_kept_right l f ≡ true) taken c.loop-statement.invariant.kept)).1

pub apply-requires-clause-index : goal.apply-requires-clause-index
apply-requires-clause-index c = by_ref c.as_ref.result c.loop-statement.index-1 _ c.as_ref.ensures.value c.loop-statement.invariant.indexed

pub returns : goal.returns
returns c = λ modules nodes of_it. λ earlier parent count at.
    let l = language_view c.args.language.now in
    let owner = c.args.owner in
    let before = c.loop-statement.statement-iterator in
    let none = (takes_none_by source_view before c.next.new.self c.in-None.ensures.steps).0 in
    let here = c.loop-statement.invariant.so_far modules nodes earlier parent of_it count at in
    let now = here.0 in (
      here.1 ∙ ap (λ f. earlier ++ places parent c.args.first f) (sym (refined_none l modules owner now) ∙ (ap (λ r. refined_in l modules owner r now) (sym none) ∙ here.2)),
      sym (ap (λ r. least_from (seen c.loop-statement.made.told) (refine_breaks_in l modules owner r now)) none) ∙ here.3,
    )
