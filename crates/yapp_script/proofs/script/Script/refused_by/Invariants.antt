use Rattle.std.proofs.Common.{◌≡◌, ◌++◌, ◌+◌, drop, map}
use Rattle.yschema_model.specs.View as schema
use Rattle.yinst_tree.specs.View.{tree_view}
use Rattle.ylive.specs.View.{edits_view, outcomes_view}
use Rattle.yapp_script.specs.Asked.{line_view, refused_parts, told_from}
use Rattle.yapp_script.proofs.script.Script.refused_by.Given as goal

abbrev pub invariant-loop-line : goal.invariant-loop-line
invariant-loop-line l = record {
  told : refused_parts l.refused.items
      ++ told_from (schema.view l.schema) (tree_view l.now) (l.number + 1) (map line_view (drop l.line-index l.fn.self.lines.items)) (edits_view l.edits) (outcomes_view l.rest)
      ≡ told_from (schema.view l.schema) (tree_view l.now) 1 (map line_view l.fn.self.lines.items) (edits_view l.fn.self.edits.items) (outcomes_view l.fn.outcomes);
  counted : l.number ≡ l.line-index;
}
