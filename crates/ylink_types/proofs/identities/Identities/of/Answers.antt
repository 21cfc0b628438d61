use Rattle.std.proofs.Common.{◌≡◌, ℕ, List, filter, map, sym, ap, ap₂, subst, ◌∙◌}
use Rattle.yspec.specs.linking.Circles.{definition_edges}
use Rattle.yspec.specs.linking.Graph.{Edge}
use Rattle.ybase_graph.specs.Derivations.{AreStraight}
use Rattle.ybase_graph.specs.Edges.{edge_view}
use Rattle.ylink_grammar.specs.LinkView.{view}
use Rattle.ylink_types.specs.DerivedView.{Ascend, AreSets}
use Rattle.ylink_types.specs.IdentityView.{assigned_by, home_view, is_kept, number_of}
use Rattle.ylink_values.specs.KeptView.{kept_view}
use Rattle.ylink_types.proofs.IdentityLemmas.{names_listed, numbers_listed, some_ascend}
use Rattle.ylink_types.proofs.OrderLemmas.{straight}
use Rattle.ylink_types.proofs.identities.Identities.of.Goals as goal

pub returns : goal.returns
returns c =
    let set = view c.args.sources.now in
    let kept = kept_view c.args.kept in
    let made = c.in_ok-identities.identities.items in
    let listed = c.in_ok-identities.ensures.listed in
    let homes = c.in_ok-homes.homes.items in
    let numbers : c.in_ok-numbers.numbers.items ≡ map number_of (filter is_kept made) =
    c.in_ok-numbers.ensures ∙ ap (λ is. map number_of (filter is_kept is)) c.deref-3.ensures.value in
    let ascend : Ascend 0 c.in_ok-numbers.numbers.items = subst (λ (ns : List ℕ). Ascend 0 ns) (sym numbers) (some_ascend 0 made c.in_ok-identities.ensures.ascend) in
    let edges = c.in_ok-edges.ensures set c.requires.held c.requires.meant in
    let edges_held : map edge_view c.deref-4.result.now ≡ definition_edges set = ap (map edge_view) c.deref-4.ensures.value ∙ edges in
    let straight_edges = straight set c.requires.straight in
    let sets = c.in_ok-derived.derived.items in
    record {
      names = c.in_ok-new.ensures.ok ∙ (c.in_ok-names.ensures ∙ (ap₂ (λ hs is. map (assigned_by (map home_view hs)) is) c.deref.ensures.value c.deref-2.ensures.value
          ∙ names_listed kept set made listed (map home_view homes) c.in_ok-homes.ensures));
      numbers = numbers ∙ numbers_listed kept set made listed;
      ascend = ascend;
      homes = c.in_ok-homes.ensures;
      edges = edges;
      straight = straight_edges;
      sets = subst (λ (es : List Edge). AreSets sets es c.in_ok-numbers.numbers.items) edges_held
          (subst (λ (ns : List ℕ). AreSets sets (map edge_view c.deref-4.result.now) ns) c.deref-5.ensures.value
          (c.in_ok-derived.ensures (subst (λ (es : List Edge). AreStraight es) (sym edges_held) straight_edges)
          (subst (λ (ns : List ℕ). Ascend 0 ns) (sym c.deref-5.ensures.value) ascend)));
    }
