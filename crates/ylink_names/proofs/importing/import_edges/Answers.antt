use Rattle.std.proofs.Common.{◌≤◌, ap, sym, map, length, arith, ◌∙◌}
use Rattle.yspec.specs.linking.Circles.{import_edge}
use Rattle.ybase_preorder.specs.View.{slots_in}
use Rattle.ybase_preorder.proofs.LabelLemmas.{preorder_by}
use Rattle.ylink_grammar.specs.LinkView.{view}
use Rattle.ylink_grammar.specs.SourceView.{source_view}
use Rattle.ylink_names.proofs.ImportingLemmas.{all_import_edges}
use Rattle.ylink_names.proofs.importing.import_edges.Goals as goal

pub returns : goal.returns
returns c places =
    let modules = view c.args.sources.now in
    let rows = slots_in c.args.sources.now.table in
    let ended : length rows ≤ c.loop-number.number = omega (arith, ap length c.slots-row-items.ensures) in
    all_import_edges modules rows c.loop-number.number c.loop-number.edges.items _ ended (c.loop-number.invariant places)
    ∙ ap (map (import_edge modules)) (sym (preorder_by source_view rows))
