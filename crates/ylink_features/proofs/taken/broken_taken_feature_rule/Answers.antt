use Rattle.std.proofs.Common.{[], ap, sym, ◌∙◌}
use Rattle.yspec.specs.schema.Breaks.{least_from}
use Rattle.yspec_wide.specs.Features.{doubled_features, features_in, taken_feature_breaks}
use Rattle.ybase_preorder.specs.View.{row_by, label_by}
use Rattle.ybase_preorder.proofs.RowLemmas.{takes_by, takes_none_by}
use Rattle.ylink_grammar.specs.BreakView.{seen}
use Rattle.ylink_grammar.specs.LanguageView.{language_view}
use Rattle.ylink_grammar.specs.SourceView.{source_view}
use Rattle.ylink_features.proofs.TakenLemmas.{next_module}
use Rattle.ylink_features.proofs.taken.broken_taken_feature_rule.Goals as goal

pub loop-top-preserved : goal.loop-top-preserved
loop-top-preserved c =
    let before = c.loop-top.top-iterator in
    let after = c.next.new.self in
    let top = c.in-Some.top in
    let language = language_view c.args.language.now in
    record {
      more = tt;
      ends = tt;
      so_far = next_module language (row_by source_view before) (row_by source_view after) (row_by source_view top.children) (label_by source_view top)
          (seen c.loop-top.told) (seen c.in_ok-told.told) _ (takes_by source_view before after top c.in-Some.ensures.steps)
          (c.in_ok-told.ensures ∙ ap (λ f. least_from (seen c.loop-top.told) (doubled_features language [] (features_in language (row_by source_view f)))) c.children.ensures)
          c.loop-top.invariant.so_far;
    }

pub returns : goal.returns
returns c =
    let before = c.loop-top.top-iterator in
    let language = language_view c.args.language.now in
    sym (ap (λ f. least_from (seen c.loop-top.told) (taken_feature_breaks language f))
    (takes_none_by source_view before c.next.new.self c.in-None.ensures.steps).0) ∙ c.loop-top.invariant.so_far
