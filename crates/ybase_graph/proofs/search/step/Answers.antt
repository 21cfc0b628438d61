use Rattle.std.proofs.Common.{ℕ, ◌≡◌, ◌-◌, ◌<◌, length, rules, arith, sym, ap, ◌∙◌, take, subst, inl, inr}
use Rattle.ybase_graph.specs.Reaching.{Reaches}
use Rattle.ybase_graph.specs.Search.{HasTarget, node_at}
use Rattle.ybase_graph.proofs.LeaveLemmas.{reaches_waiting, merged_lists, skipped_lists, read_state, read_node, node_within}
use Rattle.ybase_graph.specs.declared.search.State.TheVariants.{OnPath, Done}
use Rattle.ybase_graph.proofs.search.step.Goals as goal

pub enter-requires-clause-reached : goal.enter-requires-clause-reached
enter-requires-clause-reached c = λ i within.
    let count : c.len-count.result ≡ length c.args.search.now.waiting.items = search rules in
    let high : c.len-count.result - 1 < length c.args.search.now.waiting.items = omega arith in
    let at = read_node c.args.search.now.waiting.items (c.len-count.result - 1) c.index-target.result.now high c.index-target.ensures in
    subst (λ (x : ℕ). Reaches (HasTarget c.args.graph.now) (node_at c.args.search.now.path.items i) x) (sym at)
    (reaches_waiting c.args.graph.now c.args.search.now.states.items c.args.search.now.path.items c.args.search.now.segments.items
    c.args.search.now.waiting.items c.args.search.now.known c.requires.sound c.args.top c.requires.some c.requires.top
    (c.len-count.result - 1) high (omega arith) i within)

pub returns-then-place-top-clause-sound : goal.returns-then-place-top-clause-sound
returns-then-place-top-clause-sound c =
    let count : c.len-count.result ≡ length c.args.search.now.waiting.items = search rules in
    let high : c.len-count.result - 1 < length c.args.search.now.waiting.items = omega arith in
    let at = read_node c.args.search.now.waiting.items (c.len-count.result - 1) c.index-target.result.now high c.index-target.ensures in
    let in_states = node_within c.args.search.now.states.items c.args.search.now.path.items c.args.search.now.segments.items c.args.search.now.waiting.items
    c.args.search.now.known c.requires.sound (c.len-count.result - 1) c.index-target.result.now high at in
    merged_lists c.args.graph.now c.args.search.now.states.items c.args.search.now.path.items c.args.search.now.segments.items
    c.args.search.now.waiting.items c.args.search.now.known c.requires.sound c.args.top c.requires.some c.requires.top
    c.pop-joined.new.self.items _ (search rules) c.pop-joined.ensures.rest c.index-target.result.now c.in-OnPath.place (c.len-count.result - 1) high (omega arith) at
    (read_state c.args.search.now.states.items c.index-target.result.now c.index.result.now (OnPath c.in-OnPath.place) in_states c.index.ensures c.in-OnPath.is)
    c.if-place-top.true

pub returns-else-place-top-clause-sound : goal.returns-else-place-top-clause-sound
returns-else-place-top-clause-sound c =
    let count : c.len-count.result ≡ length c.args.search.now.waiting.items = search rules in
    let high : c.len-count.result - 1 < length c.args.search.now.waiting.items = omega arith in
    let at = read_node c.args.search.now.waiting.items (c.len-count.result - 1) c.index-target.result.now high c.index-target.ensures in
    let in_states = node_within c.args.search.now.states.items c.args.search.now.path.items c.args.search.now.segments.items c.args.search.now.waiting.items
    c.args.search.now.known c.requires.sound (c.len-count.result - 1) c.index-target.result.now high at in
    skipped_lists c.args.graph.now c.args.search.now.states.items c.args.search.now.path.items c.args.search.now.segments.items
    c.args.search.now.waiting.items c.args.search.now.known c.requires.sound c.args.top c.requires.some c.requires.top
    c.pop-met.new.self.items c.len-count.result count (c.pop-met.ensures.rest ∙ ap (λ (x : ℕ). take (x - 1) c.args.search.now.waiting.items) (sym c.len-count.ensures)) (omega arith) c.index-target.result.now at
    (inr (
      c.in-OnPath.place,
      read_state c.args.search.now.states.items c.index-target.result.now c.index.result.now (OnPath c.in-OnPath.place) in_states c.index.ensures c.in-OnPath.is,
      c.if-place-top.false,
    ))

pub returns-in-Done-clause-sound : goal.returns-in-Done-clause-sound
returns-in-Done-clause-sound c =
    let count : c.len-count.result ≡ length c.args.search.now.waiting.items = search rules in
    let high : c.len-count.result - 1 < length c.args.search.now.waiting.items = omega arith in
    let at = read_node c.args.search.now.waiting.items (c.len-count.result - 1) c.index-target.result.now high c.index-target.ensures in
    let in_states = node_within c.args.search.now.states.items c.args.search.now.path.items c.args.search.now.segments.items c.args.search.now.waiting.items
    c.args.search.now.known c.requires.sound (c.len-count.result - 1) c.index-target.result.now high at in
    skipped_lists c.args.graph.now c.args.search.now.states.items c.args.search.now.path.items c.args.search.now.segments.items
    c.args.search.now.waiting.items c.args.search.now.known c.requires.sound c.args.top c.requires.some c.requires.top
    c.pop-known.new.self.items c.len-count.result count (c.pop-known.ensures.rest ∙ ap (λ (x : ℕ). take (x - 1) c.args.search.now.waiting.items) (sym c.len-count.ensures)) (omega arith) c.index-target.result.now at
    (inl (c.in-Done.field-0, read_state c.args.search.now.states.items c.index-target.result.now c.index.result.now (Done c.in-Done.field-0) in_states c.index.ensures c.in-Done.is))
