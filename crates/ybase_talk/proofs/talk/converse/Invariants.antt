use Rattle.ybase_talk.specs.Talk.{party}
use Rattle.ybase_talk.proofs.TalkLemmas.{SoFar}
use Rattle.ybase_talk.proofs.talk.converse.Given as goal

abbrev pub invariant-loop : goal.invariant-loop
invariant-loop g l =
    let see = party g.C.Caller.events g.C.Caller.failures in SoFar g.A.Answerer.answers (see l.fn.caller) l.fn.answerer (see l.caller) l.answerer
