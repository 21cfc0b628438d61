use Rattle.ybase_preorder.specs.View.{row_by, label_by}
use Rattle.ybase_preorder.proofs.RowLemmas.{takes_by}
use Rattle.ylink_grammar.specs.SourceView.{source_view}
use Rattle.ylink_names.proofs.DeclaredLemmas.{next_import}
use Rattle.ylink_names.proofs.prefix.prefixes_of.Goals as goal

pub loop-statement-preserved : goal.loop-statement-preserved
loop-statement-preserved c =
    let before = c.loop-statement.statement-iterator in
    let after = c.next.new.self in
    let s = c.in-Some-statement.statement in
    record {
      more = tt;
      ends = tt;
      so_far = λ modules places prefix. next_import c.loop-statement.declared c.add_import.new.declared modules (row_by source_view before) (row_by source_view after)
          (row_by source_view s.children) (label_by source_view s) prefix _ (takes_by source_view before after s c.in-Some-statement.ensures.steps)
          (c.in_ok-add_import.ensures modules places prefix) (c.loop-statement.invariant.so_far modules places prefix);
    }
