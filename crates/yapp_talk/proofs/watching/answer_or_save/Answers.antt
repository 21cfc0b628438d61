use Rattle.std.proofs.Common.{Bor, ap, string_bytes, sym, ◌∙◌}
use Rattle.std.specs.Prelude.{option_map}
use Rattle.std.proofs.lemmas.Result.{IfOk-weaker}
use Rattle.yspec.specs.text.Text.{Text}
use Rattle.yspec_session.specs.Requests.{request_of}
use Rattle.ybase_talk.specs.Talk.{party}
use Rattle.ylive.specs.View.{view}
use Rattle.yapp_talk.specs.Saving.{file_asked}
use Rattle.yapp_talk.proofs.SavingLemmas.{answers_only, none_asked, on_err, saves}
use Rattle.yapp_talk.proofs.watching.answer_or_save.Goals as goal

pub returns-in_default-clause-ok : goal.returns-in_default-clause-ok
returns-in_default-clause-ok g c =
    let line = c.args.line.now in
    IfOk-weaker c.answer.result _ _ (λ text is. answers_only (file_asked (request_of line)) c.args.session.now c.answer.new.self line (string_bytes text)
    (party g.C.Caller.events g.C.Caller.failures c.args.caller.now)
    (ap (option_map (λ (b : Bor Text). b.now)) (sym c.in_default.is) ∙ c.file_named.ensures) is) c.answer.ensures

pub returns-in_default-clause-err : goal.returns-in_default-clause-err
returns-in_default-clause-err g c = on_err c.answer.result _ (none_asked (party g.C.Caller.events g.C.Caller.failures c.args.caller.now))

pub returns-clause-ok : goal.returns-clause-ok
returns-clause-ok g c =
    let see = party g.C.Caller.events g.C.Caller.failures in
    let line = c.args.line.now in
    IfOk-weaker c.save.result _ _ (λ text is. saves (file_asked (request_of line)) c.in-Some.file.now (view c.live.result.now) c.args.session.now line
    (string_bytes text) (see c.args.caller.now) (see c.save.new.caller)
    (ap (option_map (λ (b : Bor Text). b.now)) (sym c.in-Some.is) ∙ c.file_named.ensures) (ap view c.live.ensures) is) c.save.ensures.ok

pub returns-clause-err : goal.returns-clause-err
returns-clause-err g c = c.save.ensures.err
