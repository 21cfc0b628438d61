use Rattle.std.proofs.Common.{◌≡◌, Bool, false, [], map, ap, sym, ◌∙◌, arith}
use Rattle.std.specs.List.{filter_map}
use Rattle.std.specs.Option.{option_map_or}
use Rattle.std.proofs.lemmas.Bool.{eqb-true}
use Rattle.yspec.specs.linking.Graph.{is_on_circle}
use Rattle.yspec.specs.linking.Scopes.{statements_of}
use Rattle.yspec.specs.schema.Breaks.{least_from}
use Rattle.ybase_graph.specs.Edges.{edge_view}
use Rattle.ybase_graph.specs.declared.circles.Edge.{Edge}
use Rattle.ylink_grammar.specs.BreakView.{seen}
use Rattle.ylink_grammar.specs.LinkView.{view}
use Rattle.ylink_names.proofs.ImportingLemmas.{flag_of, circles_of_imports, edges_found, import_flags, no_circles, nothing_in}
use Rattle.ylink_names.proofs.importing.circular_import.Goals as goal

pub returns : goal.returns
returns c places =
    let modules = view c.args.sources.now in
    let table = c.in_ok-edges.edges.items in
    let found = c.in_ok-found.found.items in
    let test : Edge → Bool = λ e. is_on_circle (map edge_view found) (edge_view e) in
    let all : found ≡ filter_map (λ e. e) table =
    c.in_ok-found.ensures ∙ ap (filter_map (λ e. e)) c.deref.ensures.value in
    let flags : c.deref-4.result.now ≡ map test (filter_map (λ e. e) c.deref-3.result.now) =
    c.deref-4.ensures.value ∙ (c.in_ok-flags.ensures
    ∙ (ap (λ es. map (λ e. is_on_circle (map edge_view es) (edge_view e)) es) c.deref-2.ensures.value
    ∙ (ap (map test) all ∙ ap (λ es. map test (filter_map (λ e. e) es)) (sym c.deref-3.ensures.value)))) in
    let circular : c.deref-5.result.now ≡ map (flag_of modules) (statements_of modules) =
    c.deref-5.ensures.value ∙ (c.in_ok-circular.ensures test flags
    ∙ (ap (map (λ e. option_map_or test e false)) c.deref-3.ensures.value
    ∙ import_flags modules table found (c.in_ok-edges.ensures places) all)) in
    c.least_circle.ensures (flag_of modules) circular ∙ ap (least_from (seen c.args.so_far)) (circles_of_imports modules)

pub returns-then-is_empty : goal.returns-then-is_empty
returns-then-is_empty c places =
    let modules = view c.args.sources.now in
    let table = c.in_ok-edges.edges.items in
    let found = c.in_ok-found.found.items in
    let all : found ≡ filter_map (λ e. e) table =
    c.in_ok-found.ensures ∙ ap (filter_map (λ e. e)) c.deref.ensures.value in
    let count : c.in_ok-found.found.len ≡ 0 = eqb-true c.in_ok-found.found.len 0 (sym c.is_empty.ensures ∙ c.if-is_empty.true) in
    let none : found ≡ [] = nothing_in found (omega (arith, count, c.in_ok-found.found.ok.0)) in
    let edges = edges_found modules table found (c.in_ok-edges.ensures places) all in
    sym (ap (least_from (seen c.args.so_far)) (no_circles modules (sym edges ∙ ap (map edge_view) none)))
