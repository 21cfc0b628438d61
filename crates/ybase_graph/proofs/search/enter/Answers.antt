use Rattle.std.proofs.Common.{refl, rules, length, arith}
use Rattle.ybase_graph.proofs.EnterLemmas.{entered_lists}
use Rattle.ybase_graph.proofs.WorkLemmas.{entered_counted, entered_less}
use Rattle.ybase_graph.proofs.search.enter.Goals as goal

pub returns-clause-sound : goal.returns-clause-sound
returns-clause-sound c = entered_lists c.args.graph.now c.args.search.now.states.items c.args.search.now.path.items c.args.search.now.segments.items
    c.args.search.now.waiting.items c.args.search.now.known c.args.node c.push.new.self.items c.push-2.new.self.items c.extend_from_slice.new.self.items
    c.len-place.result c.len-waiting.result c.index-graph-node.result _ c.as_slice.result.now
    (search rules) (search rules) c.in_ok-push.ensures.items (refl, refl) c.in_ok-push-2.ensures.items
    c.in_ok-extend_from_slice.ensures.items c.as_slice.ensures.value c.index-graph-node.is c.requires.node
    c.requires.sound c.requires.within c.requires.unseen c.requires.reached

pub returns-clause-counted : goal.returns-clause-counted
returns-clause-counted c = let count = c.requires.sound.count in let low = c.requires.node in
    entered_counted c.args.graph.now c.args.search.now.states.items c.args.search.now.segments.items c.push-2.new.self.items
    c.args.node c.len-place.result _ c.requires.unseen (omega (arith, count, low)) c.in_ok-push-2.ensures.items
    c.args.search.now.known (length c.args.graph.now) c.requires.counted

pub returns-clause-less : goal.returns-clause-less
returns-clause-less c = let count = c.requires.sound.count in let low = c.requires.node in
    entered_less c.args.graph.now c.args.search.now.states.items c.args.search.now.segments.items c.push-2.new.self.items
    c.args.node c.len-place.result _ c.requires.unseen (omega (arith, count, low)) c.in_ok-push-2.ensures.items
    c.args.search.now.waiting.items c.extend_from_slice.new.self.items c.as_slice.result.now c.index-graph-node.result
    c.in_ok-extend_from_slice.ensures.items c.as_slice.ensures.value c.index-graph-node.is c.requires.node
