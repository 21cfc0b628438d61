use Rattle.std.proofs.Common.{◌≡◌, false, [], length, map, rules, sym, ap, ◌∙◌, subst}
use Rattle.std.specs.List.{range_with_len}
use Rattle.std.specs.List.Sorted.{IsPermutation}
use Rattle.yspec.specs.Forest.{size}
use Rattle.yspec.specs.linking.Circles.{definition_edges}
use Rattle.yspec.specs.linking.Graph.{is_on_circle}
use Rattle.ybase_graph.specs.Edges.{edge_view, AreWithin}
use Rattle.ybase_graph.specs.Reaching.{HasEdge, StandsBefore}
use Rattle.ybase_preorder.specs.View.{forest_in, slots_in}
use Rattle.ybase_preorder.proofs.RowLemmas.{size_forest}
use Rattle.ylink_grammar.specs.LinkView.{view}
use Rattle.ylink_names.specs.Ordered.{AreInOrder}
use Rattle.ylink_types.proofs.OrderLemmas.{all_in_order, none_in_order, both_ok, straight}
use Rattle.ylink_types.proofs.WithinLemmas.{edges_within}
use Rattle.ylink.proofs.ordering.order_of.Goals as goal

pub returns-then-not-names_any : goal.returns-then-not-names_any
returns-then-not-names_any c =
    let none : c.names_any.result ≡ false = first_of (search rules, cc) in
    let empty : c.new.result.items ≡ [] = first_of (search rules, cc) in
    subst (λ nodes. AreInOrder nodes (view c.args.sources.now)) (sym empty)
    (none_in_order (forest_in c.args.sources.now.table) c.args.meanings.now c.requires.meant (sym c.names_any.ensures ∙ none))

pub in_order-requires : goal.in_order-requires
in_order-requires c =
    let f = forest_in c.args.sources.now.table in
    let made = c.in_ok-edges.ensures (view c.args.sources.now) c.requires.held c.requires.meant in
    let count : length c.slots.result.now ≡ size f = ap length c.slots.ensures ∙ sym (size_forest (slots_in c.args.sources.now.table)) in
    subst (AreWithin (length c.slots.result.now)) (sym c.deref.ensures.value)
    (subst (λ n. AreWithin n c.in_ok-edges.edges.items) (sym count) (edges_within f c.in_ok-edges.edges.items made))

pub returns : goal.returns
returns c =
    let set = view c.args.sources.now in
    let f = forest_in c.args.sources.now.table in
    let made = c.in_ok-edges.ensures set c.requires.held c.requires.meant in
    let edges : map edge_view c.deref.result.now ≡ definition_edges set = ap (map edge_view) c.deref.ensures.value ∙ made in
    let count : length c.slots.result.now ≡ size f = ap length c.slots.ensures ∙ sym (size_forest (slots_in c.args.sources.now.table)) in
    both_ok c.in_order.result _ _ _ (λ order all behind. all_in_order f order.items
    (subst (λ n. IsPermutation (range_with_len 0 n) order.items) count all)
    (λ a b edge. subst (λ es. HasEdge es a b → is_on_circle es (record { source = a; target = b }) ≡ false → StandsBefore order.items b a) edges
    (behind a b) edge (straight set c.requires.straight a b edge))) c.in_order.ensures.all c.in_order.ensures.behind
