use Rattle.std.proofs.Common.{rules}
use Rattle.ybase_graph.proofs.LeaveLemmas.{left_lists}
use Rattle.ybase_graph.proofs.WorkLemmas.{left_counted, left_less}
use Rattle.ybase_graph.proofs.search.leave.Goals as goal

pub returns-clause-sound : goal.returns-clause-sound
returns-clause-sound c = left_lists c.args.graph.now c.args.search.now.states.items c.args.search.now.path.items c.args.search.now.segments.items
    c.args.search.now.waiting.items c.args.search.now.known c.requires.sound c.args.top c.requires.some c.requires.top
    c.mark.new.states.items c.truncate.new.self.items c.pop-ended.new.self.items _ (search rules) c.requires.none
    c.as_slice.result.now c.as_slice.ensures.value c.mark.ensures c.truncate.ensures.items c.pop-ended.ensures.rest

pub returns-clause-counted : goal.returns-clause-counted
returns-clause-counted c = left_counted c.args.graph.now c.args.search.now.states.items c.args.search.now.path.items
    c.args.search.now.segments.items c.args.search.now.waiting.items c.args.search.now.known c.requires.sound c.args.top.first
    c.args.search.now.known c.mark.new.states.items c.as_slice.result.now c.as_slice.ensures.value c.mark.ensures
    c.pop-ended.new.self.items _ (search rules) c.requires.some c.pop-ended.ensures.rest c.requires.counted

pub returns-clause-less : goal.returns-clause-less
returns-clause-less c = left_less c.args.graph.now c.args.search.now.states.items c.args.search.now.path.items
    c.args.search.now.segments.items c.args.search.now.waiting.items c.args.search.now.known c.requires.sound c.args.top.first
    c.args.search.now.known c.mark.new.states.items c.as_slice.result.now c.as_slice.ensures.value c.mark.ensures
    c.pop-ended.new.self.items _ (search rules) c.requires.some c.pop-ended.ensures.rest
