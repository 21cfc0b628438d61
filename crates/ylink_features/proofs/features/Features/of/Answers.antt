use Rattle.std.proofs.Common.{ap, refl, ◌∙◌}
use Rattle.ybase_preorder.specs.View.{row_by, label_by}
use Rattle.ybase_preorder.proofs.RowLemmas.{takes_by, takes_none_by}
use Rattle.ylink_grammar.specs.LanguageView.{language_view}
use Rattle.ylink_grammar.specs.LinkView.{view}
use Rattle.ylink_grammar.specs.SourceView.{source_view}
use Rattle.ylink_names.specs.FirstNamedView.{named}
use Rattle.ylink_names.proofs.PlaceLemmas.{next_place, all_places, found_at_place}
use Rattle.ylink_features.specs.FeatureView.{number_named}
use Rattle.ylink_features.proofs.FeatureLemmas.{named_as}
use Rattle.ylink_features.proofs.features.Features.of.Goals as goal

pub loop-top-preserved : goal.loop-top-preserved
loop-top-preserved c =
    let before = c.loop-top.top-iterator in
    let after = c.next.new.self in
    let top = c.in-Some.top in
    let language = language_view c.args.language.now in
    record {
      more = tt;
      ends = tt;
      so_far = λ name. next_place (λ numbers. named numbers name) (named_as language name) c.loop-top.by_module.items c.push.new.self.items
          c.in_ok-features_in.field-0 (label_by source_view top) (row_by source_view top.children) (row_by source_view after) (row_by source_view before) _
          (takes_by source_view before after top c.in-Some.ensures.steps) c.in_ok-push.ensures.items
          (c.in_ok-features_in.ensures name ∙ ap (λ f. number_named language name (row_by source_view f)) c.children.ensures)
          (c.loop-top.invariant.so_far name);
    }

pub returns : goal.returns
returns c home name =
    let modules = view c.args.sources.now in
    let before = c.loop-top.top-iterator in
    let language = language_view c.args.language.now in
    found_at_place (λ numbers. named numbers name) (named_as language name) (λ home. refl) modules c.loop-top.by_module.items
    (all_places (λ numbers. named numbers name) (named_as language name) c.loop-top.by_module.items (row_by source_view before) _
    (takes_none_by source_view before c.next.new.self c.in-None.ensures.steps).0 (c.loop-top.invariant.so_far name)) home
