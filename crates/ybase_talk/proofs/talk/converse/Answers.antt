use Rattle.ybase_talk.specs.Talk.{party}
use Rattle.ybase_talk.proofs.TalkLemmas.{one_more, went_on}
use Rattle.ybase_talk.proofs.talk.converse.Goals as goal

pub loop-preserved : goal.loop-preserved
loop-preserved g c =
    let see = party g.C.Caller.events g.C.Caller.failures in
    one_more g.A.Answerer.answers (see c.args.caller.now) (see c.loop.caller) (see c.exchange.new.caller)
    c.args.answerer.now c.loop.answerer c.exchange.new.answerer c.loop.invariant
    (went_on g.A.Answerer.answers (see c.loop.caller) (see c.exchange.new.caller) c.loop.answerer c.exchange.new.answerer
    c.in_ok-exchange.field-0 c.if-not-branch.false c.in_ok-exchange.ensures)
