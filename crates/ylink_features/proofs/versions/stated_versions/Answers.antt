use Rattle.std.proofs.Common.{ap, ◌∙◌, option_map}
use Rattle.ybase_preorder.specs.View.{row_by, label_by}
use Rattle.ybase_preorder.proofs.RowLemmas.{takes_by, takes_none_by}
use Rattle.ylink_conditions.specs.View.{version_view}
use Rattle.ylink_grammar.specs.SourceView.{source_view}
use Rattle.ylink_names.proofs.PlaceLemmas.{next_place, all_places}
use Rattle.ylink_features.specs.VersionView.{stated_in}
use Rattle.ylink_features.proofs.versions.stated_versions.Goals as goal

pub loop-top-preserved : goal.loop-top-preserved
loop-top-preserved c =
    let before = c.loop-top.top-iterator in
    let after = c.next.new.self in
    let top = c.in-Some.top in
    record {
      more = tt;
      ends = tt;
      so_far = next_place (option_map version_view) stated_in c.loop-top.made.items c.push.new.self.items c.stated_in.result
          (label_by source_view top) (row_by source_view top.children) (row_by source_view after) (row_by source_view before) _
          (takes_by source_view before after top c.in-Some.ensures.steps) c.in_ok-push.ensures.items
          (c.stated_in.ensures ∙ ap (λ f. stated_in 0 (row_by source_view f)) c.children.ensures)
          c.loop-top.invariant.so_far;
    }

pub returns : goal.returns
returns c =
    let before = c.loop-top.top-iterator in
    all_places (option_map version_view) stated_in c.loop-top.made.items (row_by source_view before) _
    (takes_none_by source_view before c.next.new.self c.in-None.ensures.steps).0 c.loop-top.invariant.so_far
