use Rattle.std.proofs.Common.{ap, map, ◌∙◌}
use Rattle.yspec.specs.linking.Imports.{unmet_in}
use Rattle.yspec.specs.schema.Breaks.{least_from}
use Rattle.ybase_preorder.specs.View.{row_by, label_by}
use Rattle.ybase_preorder.proofs.RowLemmas.{takes_by}
use Rattle.ylink_grammar.specs.BreakView.{seen}
use Rattle.ylink_grammar.specs.LinkView.{view}
use Rattle.ylink_grammar.specs.SourceView.{source_view}
use Rattle.ylink_names.specs.RevisionView.{date_view, AreRevisionsOf}
use Rattle.ylink_names.proofs.RevisionLemmas.{next_unmet}
use Rattle.ylink_names.proofs.imports.unmet_import.Goals as goal

pub loop-top-preserved : goal.loop-top-preserved
loop-top-preserved c =
    let before = c.loop-top.top-iterator in
    let after = c.next.new.self in
    let top = c.in-Some.top in
    let modules = view c.args.sources.now in
    let revisions : AreRevisionsOf c.deref.result.now modules = ap (map date_view) c.deref.ensures.value ∙ c.in_ok-newest.ensures in
    record {
      more = tt;
      ends = tt;
      so_far = λ places. next_unmet modules (row_by source_view before) (row_by source_view after) (row_by source_view top.children) (label_by source_view top)
          (seen c.loop-top.told) (seen c.judge_imports-told.result) _ (takes_by source_view before after top c.in-Some.ensures.steps)
          (c.judge_imports-told.ensures modules revisions places ∙ ap (λ f. least_from (seen c.loop-top.told) (unmet_in modules (row_by source_view f))) c.children.ensures)
          (c.loop-top.invariant.so_far places);
    }
