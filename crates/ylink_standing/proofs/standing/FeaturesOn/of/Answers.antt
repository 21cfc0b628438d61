use Rattle.std.proofs.Common.{length, map, sym, ap, subst}
use Rattle.ybase_graph.specs.Edges.{AreWithin, edge_view}
use Rattle.ybase_preorder.specs.View.{slots_in}
use Rattle.ylink_grammar.specs.LinkView.{view}
use Rattle.ylink_standing.specs.StandingView.{AreKnown}
use Rattle.ylink_standing.proofs.StepLemmas.{ordered}
use Rattle.ylink_standing.proofs.standing.FeaturesOn.of.Goals as goal

pub in_order-requires : goal.in_order-requires
in_order-requires c = subst (λ k. AreWithin k c.args.edges.now) (sym (ap length c.slots.ensures)) c.requires

pub returns : goal.returns
returns c language asked chosen edges none =
    let set = view c.args.sources.now in
    let nodes = c.in_ok-order.order.items in
    let known : AreKnown c.args.conditions.items c.args.chosen.now nodes language set = record {
      asked_is = asked;
      chosen_is = chosen;
      order = ordered (slots_in c.args.sources.now.table) language (length c.slots.result.now) (ap length c.slots.ensures) nodes (map edge_view c.args.edges.now) edges none
          c.in_ok-order.ensures.all c.in_ok-order.ensures.behind;
      none = none;
    } in
    record {
      tells = c.in_ok-on.ensures language
          (subst (λ xs. AreKnown xs c.args.chosen.now c.as_slice-2.result.now language set) (sym c.as_slice.ensures.value)
          (subst (λ ns. AreKnown c.args.conditions.items c.args.chosen.now ns language set) (sym c.as_slice-2.ensures.value) known));
      asked = asked;
    }
