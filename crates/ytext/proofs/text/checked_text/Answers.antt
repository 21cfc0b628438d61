use Rattle.std.proofs.Common.{ℕ, Some, None, sym, ap, subst, ◌∙◌, arith}
use Rattle.yspec.specs.text.Statement.{slip}
use Rattle.yspec.specs.Results.{Fails}
use Rattle.ytext.specs.Characters.{judged}
use Rattle.ytext.specs.Told.{told_by}
use Rattle.ytext.specs.declared.fault.TextFault.{TextFault}
use Rattle.ytext.proofs.TextLemmas.{too_long, judged_by, no_text, text_allowed}
use Rattle.ytext.proofs.text.checked_text.Goals as goal

pub returns-then-bytes-gt-TEXT_LIMIT-clause-err : goal.returns-then-bytes-gt-TEXT_LIMIT-clause-err
returns-then-bytes-gt-TEXT_LIMIT-clause-err c = λ top.
    subst (λ (e : TextFault). Fails (told_by e) (judged c.args.bytes.now top)) (sym c.refused.ensures) (too_long c.args.bytes.now top (omega (arith, c.if-bytes-gt-TEXT_LIMIT.true)))

pub returns-in-Some-clause-err : goal.returns-in-Some-clause-err
returns-in-Some-clause-err c = λ top.
    subst (λ (e : TextFault). Fails (told_by e) (judged c.args.bytes.now top)) (sym c.refused-in-Some.ensures)
    (judged_by c.args.bytes.now c.in-Ok.text.now top (Some c.in-Some.line) c.in-Ok.ensures.cases.0 (omega (arith, c.if-bytes-gt-TEXT_LIMIT.false)) c.in-Ok.ensures.cases.1 c.in-Some.ensures.line)

pub returns-in-None-clause-ok : goal.returns-in-None-clause-ok
returns-in-None-clause-ok c = λ top.
    judged_by c.args.bytes.now c.in-Ok.text.now top None c.in-Ok.ensures.cases.0 (omega (arith, c.if-bytes-gt-TEXT_LIMIT.false)) c.in-Ok.ensures.cases.1 c.in-None.ensures.line

pub returns-in-Err-clause-err : goal.returns-in-Err-clause-err
returns-in-Err-clause-err c = λ top.
    subst (λ (e : TextFault). Fails (told_by e) (judged c.args.bytes.now top)) (sym c.refused-in-Err.ensures)
    (no_text c.args.bytes.now c.split_at.result.0.now top c.valid_up_to.result (omega (arith, c.if-bytes-gt-TEXT_LIMIT.false)) c.in-Err.ensures.cases.0
    (c.valid_up_to.ensures ∙ c.in-Err.ensures.valid_len) c.split_at.ensures.front ∙ ap (λ (n : ℕ). slip 1 n) (sym c.line_behind.ensures.line))

pub returns-in-None-clause-allowed : goal.returns-in-None-clause-allowed
returns-in-None-clause-allowed c =
    text_allowed c.args.bytes.now c.in-Ok.text.now c.in-Ok.ensures.cases.0 (omega (arith, c.if-bytes-gt-TEXT_LIMIT.false)) c.in-Ok.ensures.cases.1 c.in-None.ensures.line
