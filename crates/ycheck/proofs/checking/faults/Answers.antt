use Rattle.std.proofs.Common.{subst, sym}
use Rattle.yspec.specs.document.Sorting.{IsSorted}
use Rattle.yschema_model.specs.View as schema_view
use Rattle.yschema_model.proofs.CallerLemmas.{numbered}
use Rattle.yinst_tree.specs.View as document_view
use Rattle.ycheck.proofs.ReferenceLemmas.{all_found}
use Rattle.ycheck.proofs.checking.faults.Goals as goal

pub returns : goal.returns
returns c = λ sorted.
    let schema = c.args.schema.now in
    let tree = document_view.tree_view c.args.tree.now in
    all_found c.in_ok-targets.targets (schema_view.view schema) tree (document_view.row_view c.roots-nodes.result.now) (schema_view.row_view c.roots.result) _ c.check_row.new.findings
    (numbered schema) sorted (c.in_ok-targets.ensures sorted) c.roots.ensures c.roots-nodes.ensures c.new.ensures.items c.new-2.ensures.items
    (c.in_ok-check_row.ensures (subst IsSorted (sym c.roots-nodes.ensures) sorted))
