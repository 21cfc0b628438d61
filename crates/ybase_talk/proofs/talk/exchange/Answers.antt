use Rattle.std.proofs.Common.{ap, inl, refl, string_bytes, ◌∙◌}
use Rattle.ybase_talk.specs.Talk.{left_by, party}
use Rattle.ybase_talk.proofs.TalkLemmas.{no_more, says_end, without_answer, exchanged, broken}
use Rattle.ybase_talk.proofs.talk.exchange.Goals as goal

pub returns-in-Ok-None : goal.returns-in-Ok-None
returns-in-Ok-None g c =
    let see = party g.C.Caller.events g.C.Caller.failures in
    no_more g.A.Answerer.answers (see c.args.caller.now) (see c.next_line.new.self) c.args.answerer.now _ _ c.in-Ok-None.ensures.ok c.in-Ok-None.field-0-is

pub returns-in-Err-Unread : goal.returns-in-Err-Unread
returns-in-Err-Unread g c =
    let see = party g.C.Caller.events g.C.Caller.failures in
    (c.in-Err-Unread.ensures.err ∙ ap (λ fault. left_by fault (see c.args.caller.now)) c.in-Err-Unread.field-0-is, refl)

pub returns-in-Err-Memory : goal.returns-in-Err-Memory
returns-in-Err-Memory g c =
    let see = party g.C.Caller.events g.C.Caller.failures in
    inl (c.in-Err-Memory.ensures.err ∙ ap (λ fault. left_by fault (see c.args.caller.now)) c.in-Err-Memory.field-0-is, refl)

pub returns-then-says_end : goal.returns-then-says_end
returns-then-says_end g c =
    let see = party g.C.Caller.events g.C.Caller.failures in
    says_end g.A.Answerer.answers (see c.args.caller.now) (see c.next_line.new.self) c.args.answerer.now
    _ _ _ _ _ c.in-Ok-Some.ensures.ok c.in-Ok-Some.field-0-is c.deref.ensures.value c.says_end.ensures c.if-says_end.true

pub returns-in_default : goal.returns-in_default
returns-in_default g c =
    let see = party g.C.Caller.events g.C.Caller.failures in
    without_answer g.A.Answerer.answers (see c.args.caller.now) (see c.next_line.new.self) (see c.answer.new.caller) c.args.answerer.now
    c.answer.new.self _ _ _ c.in-Ok-Some.ensures.ok c.in-Ok-Some.field-0-is c.in_default.ensures.err

pub returns-in-Ok-tell : goal.returns-in-Ok-tell
returns-in-Ok-tell g c =
    let see = party g.C.Caller.events g.C.Caller.failures in
    exchanged g.A.Answerer.answers (see c.args.caller.now) (see c.next_line.new.self) (see c.answer.new.caller)
    (see c.tell.new.self) c.args.answerer.now c.answer.new.self _ _ _ c.deref-2.result.now (string_bytes c.in-Ok.answer) c.as_bytes.result.now
    c.in-Ok-Some.ensures.ok c.in-Ok-Some.field-0-is c.deref-2.ensures.value c.in-Ok.ensures.ok
    c.in-Ok-tell.ensures.ok (c.as_bytes.ensures.value ∙ c.as_str.ensures.value)

pub returns : goal.returns
returns g c =
    let see = party g.C.Caller.events g.C.Caller.failures in
    broken g.A.Answerer.answers (see c.args.caller.now) (see c.next_line.new.self) (see c.answer.new.caller)
    (see c.tell.new.self) c.args.answerer.now c.answer.new.self _ _ _ c.deref-2.result.now (string_bytes c.in-Ok.answer) c.as_bytes.result.now
    c.in-Ok-Some.ensures.ok c.in-Ok-Some.field-0-is c.deref-2.ensures.value c.in-Ok.ensures.ok
    c.in-Err.ensures.err (c.as_bytes.ensures.value ∙ c.as_str.ensures.value)
