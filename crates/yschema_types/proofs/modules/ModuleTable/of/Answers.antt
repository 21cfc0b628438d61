use Rattle.ybase_preorder.specs.View.{row_by, label_by}
use Rattle.ybase_preorder.proofs.RowLemmas.{takes_by, takes_none_by}
use Rattle.ylink_grammar.specs.SourceView.{source_view}
use Rattle.ylink.specs.LinkedView.{view}
use Rattle.yschema_types.proofs.ModuleLemmas.{all_named, last_named, next_named}
use Rattle.yschema_types.proofs.modules.ModuleTable.of.Goals as goal

pub loop-top-preserved : goal.loop-top-preserved
loop-top-preserved c =
    let before = c.loop-top.top-iterator in
    let after = c.next.new.self in
    let top = c.in-Some.top in
    record {
      more = tt;
      ends = tt;
      so_far = next_named c.loop-top.modules.items c.push.new.self.items c.in_ok-named_module.field-0
          (label_by source_view top) (row_by source_view top.children) (row_by source_view after) (row_by source_view before) _
          (takes_by source_view before after top c.in-Some.ensures.steps) c.in_ok-push.ensures.items
          c.in_ok-named_module.ensures c.loop-top.invariant.so_far;
    }

pub returns : goal.returns
returns c =
    let before = c.loop-top.top-iterator in
    all_named (view c.args.linked.now) c.loop-top.modules.items
    (last_named c.loop-top.modules.items (row_by source_view before) _
    (takes_none_by source_view before c.next.new.self c.in-None.ensures.steps).0 c.loop-top.invariant.so_far)
