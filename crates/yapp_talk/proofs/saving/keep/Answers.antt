use Rattle.std.proofs.Common.{refl, string_bytes, ◌∙◌}
use Rattle.std.proofs.lemmas.Result.{IfOk-weaker}
use Rattle.ybase_talk.specs.Talk.{party}
use Rattle.ylive.specs.View.{view}
use Rattle.yapp_talk.proofs.SavingLemmas.{kept_badly, kept_well, none_asked, on_err, one_unkept}
use Rattle.yapp_talk.proofs.saving.keep.Goals as goal

pub returns-in_err-text-clause-err : goal.returns-in_err-text-clause-err
returns-in_err-text-clause-err g c =
    on_err c.from_residual.result _ (none_asked (party g.C.Caller.events g.C.Caller.failures c.args.caller.now))

pub returns-in_err-saved-clause-err : goal.returns-in_err-saved-clause-err
returns-in_err-saved-clause-err g c =
    on_err c.from_residual-in_err-saved.result _ (none_asked (party g.C.Caller.events g.C.Caller.failures c.args.caller.now))

pub returns-in-Ok-clause-ok : goal.returns-in-Ok-clause-ok
returns-in-Ok-clause-ok g c =
    let see = party g.C.Caller.events g.C.Caller.failures in
    kept_well (view c.args.live.now) c.args.file.now (string_bytes c.in_ok-saved.saved) c.args.file.now c.as_str.result.now (see c.args.caller.now)
    (see c.keep.new.self) refl (c.as_str.ensures.value ∙ c.in_ok-text.ensures) c.in_ok-saved.ensures c.in-Ok.ensures

pub returns-clause-ok : goal.returns-clause-ok
returns-clause-ok g c =
    let see = party g.C.Caller.events g.C.Caller.failures in
    IfOk-weaker c.unsaved_text.result _ _ (λ text said. kept_badly (view c.args.live.now) c.args.file.now (string_bytes text) c.args.file.now
    c.as_str.result.now c.in-Err.cause.now (see c.args.caller.now) (see c.keep.new.self) refl (c.as_str.ensures.value ∙ c.in_ok-text.ensures) said
    c.in-Err.ensures) c.unsaved_text.ensures

pub returns-clause-err : goal.returns-clause-err
returns-clause-err g c =
    let see = party g.C.Caller.events g.C.Caller.failures in
    on_err c.unsaved_text.result _ (one_unkept c.args.file.now c.as_str.result.now c.in-Err.cause.now (see c.args.caller.now) (see c.keep.new.self)
    c.in-Err.ensures)
