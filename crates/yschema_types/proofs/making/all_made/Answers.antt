use Rattle.std.proofs.Common.{ℕ, List, map, sym, ap, subst, ◌∙◌}
use Rattle.yspec.specs.Forest.{size}
use Rattle.ybase_graph.specs.Edges.{AreWithin, edge_view}
use Rattle.ybase_graph.specs.declared.circles.Edge.{Edge}
use Rattle.yschema_plan.specs.PlanView.{view}
use Rattle.yschema_types.specs.TypesView.{meants_view}
use Rattle.yschema_types.proofs.TypeLemmas.{ordered}
use Rattle.yschema_types.proofs.making.all_made.Goals as goal

pub in_order-requires : goal.in_order-requires
in_order-requires c =
    subst (λ (n : ℕ). AreWithin n c.as_slice.result.now) (sym c.nodes.ensures)
    (subst (λ (es : List Edge). AreWithin (size (view c.args.plan.now).nodes) es) (sym c.as_slice.ensures.value) c.requires.within)

pub returns : goal.returns
returns c = λ means are edges.
    c.made_in_order.ensures means (ap meants_view c.as_slice-2.ensures.value ∙ are)
    (ordered (view c.args.plan.now) means c.nodes.result c.as_slice.result.now c.in_ok-order.order.items c.as_slice-3.result.now c.nodes.ensures
    (ap (map edge_view) c.as_slice.ensures.value ∙ edges) c.as_slice-3.ensures.value c.in_ok-order.ensures.all c.in_ok-order.ensures.behind)
