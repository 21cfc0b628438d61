use Rattle.std.proofs.Common.{◌≡◌, ◌∷◌, [], ℕ, List, Some, map, sym, ap, subst, ◌∙◌, rules}
use Rattle.std.specs.Prelude.{option_map}
use Rattle.std.proofs.lemmas.Result.{IfOk-weaker}
use Rattle.yspec.specs.linking.Circles.{definition_edges}
use Rattle.yspec.specs.linking.Graph.{Edge}
use Rattle.ybase_graph.specs.Derivations as graphs
use Rattle.ybase_graph.specs.Edges.{edge_view}
use Rattle.ylink_types.specs.DerivedView.{Ascend, derived_among, set_at}
use Rattle.ylink_types.proofs.IdentityLemmas.{derived_so}
use Rattle.ylink_types.proofs.identities.Identities.derived_from.Goals as goal

pub returns-in-Some : goal.returns-in-Some
returns-in-Some c kept modules is =
    let base = c.args.base in
    let held : Some c.in-Some.derived.now ≡ set_at c.args.self.now.derived.items base =
    sym (ap (option_map (λ s. s.now)) c.in-Some.is) ∙ (c.set_held.ensures ∙ ap (λ l. set_at l base) c.deref.ensures.value) in
    let cloned : c.in_ok-clone.field-0.value.keys ≡ c.in-Some.derived.now.value.keys = search rules in
    cloned ∙ (is.sets base c.in-Some.derived.now (sym held) ∙ derived_so kept modules c.args.self.now.numbers.items is.numbers (base ∷ []))

pub returns : goal.returns
returns c kept modules is =
    let base = c.args.base in
    let edges : map edge_view c.deref-2.result.now ≡ definition_edges modules = ap (map edge_view) c.deref-2.ensures.value ∙ is.edges in
    let numbers = c.deref-3.ensures.value in
    IfOk-weaker c.derived_among.result _ _
    (λ s k. k ∙ (ap (λ (ns : List ℕ). derived_among (definition_edges modules) ns (base ∷ [])) numbers
    ∙ derived_so kept modules c.args.self.now.numbers.items is.numbers (base ∷ [])))
    (c.derived_among.ensures (definition_edges modules)
    (subst (λ (es : List Edge). graphs.IsOf c.in_ok-derivations.derivations es) edges c.in_ok-derivations.ensures)
    is.straight (subst (λ (ns : List ℕ). Ascend 0 ns) (sym numbers) is.ascend))
