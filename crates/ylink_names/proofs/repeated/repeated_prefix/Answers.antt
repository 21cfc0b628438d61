use Rattle.std.proofs.Common.{[], ap, map, ◌∙◌}
use Rattle.yspec.specs.linking.Imports.{prefix_statements, repeated}
use Rattle.yspec.specs.schema.Breaks.{least_from}
use Rattle.ybase_preorder.specs.View.{row_by, label_by}
use Rattle.ybase_preorder.proofs.RowLemmas.{takes_by}
use Rattle.ylink_grammar.specs.BreakView.{seen}
use Rattle.ylink_grammar.specs.SourceView.{source_view}
use Rattle.ylink_names.proofs.RepeatedLemmas.{next_module}
use Rattle.ylink_names.proofs.repeated.repeated_prefix.Goals as goal

pub loop-top-preserved : goal.loop-top-preserved
loop-top-preserved c =
    let before = c.loop-top.top-iterator in
    let after = c.next.new.self in
    let top = c.in-Some.top in
    record {
      more = tt;
      ends = tt;
      so_far = next_module (row_by source_view before) (row_by source_view after) (row_by source_view top.children) (label_by source_view top)
          (seen c.loop-top.told) (seen c.in_ok-told.told) _ (takes_by source_view before after top c.in-Some.ensures.steps)
          (c.in_ok-told.ensures ∙ ap (λ ss. least_from (seen c.loop-top.told) (repeated [] ss)) (ap (map (label_by source_view)) c.deref.ensures.value ∙ (c.in_ok-statements.ensures ∙ ap (λ f. prefix_statements (row_by source_view f)) c.children.ensures)))
          c.loop-top.invariant.so_far;
    }
