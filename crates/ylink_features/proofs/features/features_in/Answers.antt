use Rattle.std.proofs.Common.{ap, ◌∙◌}
use Rattle.ybase_preorder.specs.View.{row_by, label_by}
use Rattle.ybase_preorder.proofs.RowLemmas.{takes_by, takes_none_by}
use Rattle.ylink_grammar.specs.LanguageView.{language_view}
use Rattle.ylink_grammar.specs.SourceView.{source_view}
use Rattle.ylink_names.specs.FirstNamedView.{named}
use Rattle.ylink_names.proofs.FirstNamedLemmas.{first_more, first_ended}
use Rattle.ylink_features.specs.FeatureView.{feature_by, number_named}
use Rattle.ylink_features.proofs.FeatureLemmas.{feature_first}
use Rattle.ylink_features.proofs.features.features_in.Goals as goal

pub loop-statement-preserved : goal.loop-statement-preserved
loop-statement-preserved c =
    let before = c.loop-statement.statement-iterator in
    let after = c.next.new.self in
    let s = c.in-Some.statement in
    let language = language_view c.args.language.now in
    let label = label_by source_view s in
    let below = row_by source_view s.children in
    record {
      more = tt;
      ends = tt;
      so_far = λ name. first_more (named c.loop-statement.numbers name) (named c.add_feature.new.numbers name) (feature_by language name label)
          (number_named language name (row_by source_view after)) (number_named language name (row_by source_view before)) _
          (c.in_ok-add_feature.ensures name)
          (ap (number_named language name) (takes_by source_view before after s c.in-Some.ensures.steps) ∙ feature_first language name label below (row_by source_view after))
          (c.loop-statement.invariant.so_far name);
    }

pub returns : goal.returns
returns c name =
    let before = c.loop-statement.statement-iterator in
    let language = language_view c.args.language.now in
    first_ended (named c.loop-statement.numbers name) (number_named language name (row_by source_view before)) _
    (ap (number_named language name) (takes_none_by source_view before c.next.new.self c.in-None.ensures.steps).0)
    (c.loop-statement.invariant.so_far name)
