use Rattle.std.proofs.Common.{◌∷◌, [], ap, sym, ◌∙◌, is_some, cond, Some, None}
use Rattle.yspec.specs.Forest.{first_of}
use Rattle.yspec.specs.text.Text.{is_text}
use Rattle.yspec.specs.linking.Source.{argument_in}
use Rattle.yspec.specs.schema.Breaks.{broken, least_from, when}
use Rattle.yspec_wide.specs.Features.{doubled_features, features_in}
use Rattle.yspec_wide.specs.Sources.{is_feature}
use Rattle.ybase_preorder.specs.View.{row_by, label_by}
use Rattle.ybase_preorder.proofs.RowLemmas.{takes_by, takes_none_by}
use Rattle.ytext.specs.View.{view}
use Rattle.ylink_grammar.specs.BreakView.{break_view, seen}
use Rattle.ylink_grammar.specs.LanguageView.{language_view}
use Rattle.ylink_grammar.specs.SourceView.{source_view}
use Rattle.ylink_grammar.specs.declared.source.Source.{Source}
use Rattle.ylink_names.specs.FirstNamedView.{named}
use Rattle.ylink_names.proofs.RepeatedLemmas.{held_more}
use Rattle.ylink_features.proofs.TakenLemmas.{next_other, next_feature}
use Rattle.ylink_features.proofs.taken.judge_features.Goals as goal

pub loop-statement-preserved-then-not-is_feature : goal.loop-statement-preserved-then-not-is_feature
loop-statement-preserved-then-not-is_feature c =
    let before = c.loop-statement.statement-iterator in
    let after = c.next.new.self in
    let s = c.in-Some.statement in
    let held = c.loop-statement.invariant.so_far in
    let language = language_view c.args.language.now in
    record {
      more = tt;
      ends = tt;
      so_far = (
        held.0,
        held.1,
        next_other language (row_by source_view before) (row_by source_view after) (row_by source_view s.children) (label_by source_view s)
            held.0 (seen c.loop-statement.told) _ (takes_by source_view before after s c.in-Some.ensures.steps)
            (ap (λ l. is_feature language (source_view s.number l)) (sym c.label-source.ensures) ∙ (sym (c.is_feature.ensures s.number) ∙ c.if-not-is_feature.true)) held.2,
      );
    }

pub loop-statement-preserved : goal.loop-statement-preserved
loop-statement-preserved c =
    let before = c.loop-statement.statement-iterator in
    let after = c.next.new.self in
    let s = c.in-Some.statement in
    let held = c.loop-statement.invariant.so_far in
    let language = language_view c.args.language.now in
    let source = label_by source_view s in
    let name = argument_in source in
    let told = seen c.loop-statement.told in
    record {
      more = tt;
      ends = tt;
      so_far = (
        name ∷ held.0,
        held_more tt c.loop-statement.names c.add.new.self held.0 name held.1
            (λ t. c.in_ok-add.ensures t ∙ ap (λ n. first_of (named c.loop-statement.names t) (cond (is_text n t) (Some tt) None)) c.argument_of-name.ensures),
        next_feature language (row_by source_view before) (row_by source_view after) (row_by source_view s.children) source
            held.0 told _ _ c.is_some-is_taken.result (takes_by source_view before after s c.in-Some.ensures.steps)
            (ap (λ l. is_feature language (source_view s.number l)) (sym c.label-source.ensures) ∙ (sym (c.is_feature.ensures s.number) ∙ c.if-not-is_feature.false))
            (c.is_some-is_taken.ensures ∙ ap is_some c.get.ensures ∙ ap (λ n. is_some (named c.loop-statement.names n)) c.argument_of-name.ensures ∙ held.1 name)
            (c.least_when-told.ensures ∙ ap (λ b. least_from told (when c.is_some-is_taken.result (break_view b ∷ []))) c.broken-taken.ensures
            ∙ ap (λ (l : Source). least_from told (when c.is_some-is_taken.result (broken 7 l.home (view l.statement.now).0.line))) c.label-source.ensures) held.2,
      );
    }

pub returns : goal.returns
returns c =
    let before = c.loop-statement.statement-iterator in
    let held = c.loop-statement.invariant.so_far in
    let language = language_view c.args.language.now in
    sym (ap (λ f. least_from (seen c.loop-statement.told) (doubled_features language held.0 (features_in language f)))
    (takes_none_by source_view before c.next.new.self c.in-None.ensures.steps).0) ∙ held.2
