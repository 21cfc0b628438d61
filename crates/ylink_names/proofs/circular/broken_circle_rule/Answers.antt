use Rattle.std.proofs.Common.{◌≡◌, Bool, false, map, rules, ap, sym, ◌∙◌}
use Rattle.std.specs.List.{filter_map}
use Rattle.std.specs.Option.{option_map_or}
use Rattle.yspec.specs.linking.Circles.{definition_edge, definition_edges, is_circular}
use Rattle.yspec.specs.linking.Graph.{is_on_circle}
use Rattle.yspec.specs.linking.Scopes.{Placed, statements_of}
use Rattle.yspec.specs.schema.Breaks.{least_from}
use Rattle.ybase_graph.specs.Edges.{edge_view}
use Rattle.ybase_graph.specs.declared.circles.Edge.{Edge}
use Rattle.ylink_grammar.specs.BreakView.{seen}
use Rattle.ylink_grammar.specs.LinkView.{view}
use Rattle.ylink_names.proofs.EdgeLemmas.{circular_flags}
use Rattle.ylink_names.proofs.LackingLemmas.{nothing_circular}
use Rattle.ylink_names.proofs.circular.broken_circle_rule.Goals as goal

pub returns : goal.returns
returns c held meant =
    let modules = view c.args.sources.now in
    let table = c.in_ok-edges.edges.items in
    let found = c.in_ok-found.found.items in
    let test : Edge → Bool = λ e. is_on_circle (map edge_view found) (edge_view e) in
    let flag : Placed → Bool = λ p. is_circular (definition_edges modules) (definition_edge modules p) in
    let all : found ≡ filter_map (λ e. e) table =
    c.in_ok-found.ensures ∙ ap (filter_map (λ e. e)) c.deref.ensures.value in
    let flags : c.deref-4.result.now ≡ map test (filter_map (λ e. e) c.deref-3.result.now) =
    c.deref-4.ensures.value ∙ (c.in_ok-flags.ensures
    ∙ (ap (λ es. map (λ e. is_on_circle (map edge_view es) (edge_view e)) es) c.deref-2.ensures.value
    ∙ (ap (map test) all ∙ ap (λ es. map test (filter_map (λ e. e) es)) (sym c.deref-3.ensures.value)))) in
    let circular : c.deref-5.result.now ≡ map flag (statements_of modules) =
    c.deref-5.ensures.value ∙ (c.in_ok-circular.ensures test flags
    ∙ (ap (map (λ e. option_map_or test e false)) c.deref-3.ensures.value
    ∙ circular_flags modules c.args.holders.now c.args.meanings.now table found held meant c.in_ok-edges.ensures all)) in
    c.least_circle.ensures flag circular

pub returns-then-not-has_any_definition : goal.returns-then-not-has_any_definition
returns-then-not-has_any_definition c held meant =
    let none : c.has_any_definition.result ≡ false = first_of (search rules, cc) in
    sym (ap (least_from (seen c.args.so_far)) (nothing_circular (view c.args.sources.now) (sym c.has_any_definition.ensures ∙ none)))
