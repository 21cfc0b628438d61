use Rattle.std.proofs.Common.{Bool, false, cond, List, None, map, sym, ap, ap₂, ◌∙◌, arith}
use Rattle.std.specs.Prelude.{option_map, option_to_list, slice_get, unwrap_or}
use Rattle.std.proofs.lemmas.List.{at_drop_all}
use Rattle.ybase_graph.specs.Edges.{edge_view}
use Rattle.ybase_graph.specs.declared.circles.Edge.{Edge}
use Rattle.yschema_types.specs.ReferenceEdges.{source_on}
use Rattle.yschema_types.specs.Marks.{marked, marked_by}
use Rattle.yschema_types.proofs.TypeLemmas.{next_circled}
use Rattle.yschema_types.proofs.types.all_circles.Goals as goal

pub loop-number-preserved : goal.loop-number-preserved
loop-number-preserved c =
    let n = c.loop-number.number in
    let marks = c.loop-number.circles.items in
    next_circled c.args.edges.now c.in_ok-flags.flags.items c.in_ok-flags.ensures n marks c.mark_any.new.marks.items _ c.loop-number-test.true
    (c.mark_any.ensures ∙ ap (λ o. marked marks (option_to_list o)) (c.source_told-source.ensures
    ∙ ap₂ (λ b o. cond b (option_map (λ (e : Edge). e.source) o) None)
    (c.is_told-is_on_circle.ensures ∙ ap (λ (fs : List Bool). unwrap_or (slice_get fs n) false) c.as_slice.ensures.value) c.edge_at.ensures))
    c.loop-number.invariant

pub returns : goal.returns
returns c =
    let edges = map edge_view c.args.edges.now in
    sym (at_drop_all (λ l. marked_by (source_on edges) c.loop-number.circles.items (map edge_view l)) c.args.edges.now c.loop-number.number (omega (arith, c.loop-number-test.false)))
    ∙ c.loop-number.invariant
