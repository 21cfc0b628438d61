use Rattle.std.proofs.Common.{List, ℕ, ◌++◌, drop, get_or, sym, ap, subst, ◌∙◌, arith, string_bytes}
use Rattle.yspec.specs.text.Token.{escape}
use Rattle.yspec.specs.Results.{Fails}
use Rattle.ytext.specs.Told.{told_by}
use Rattle.ytext.specs.declared.fault.TextFault.{TextFault}
use Rattle.ytext.specs.Quoted.{reading_in}
use Rattle.ytext.proofs.QuotedLemmas.{step_alone, step_escape, step_itself, step_wrong}
use Rattle.ytext.proofs.quoted.push_escape.Goals as goal

pub returns-then-next-bytes-clause-ok : goal.returns-then-next-bytes-clause-ok
returns-then-next-bytes-clause-ok c = λ width.
    step_alone c.args.is_yang_1 width c.args.place.left c.args.place.line (string_bytes c.args.text.now) c.args.raw.now c.args.place.at c.behind_ascii-next.result
    c.behind_ascii-next.ensures.next c.requires.within (omega (arith, c.if-next-bytes.true, c.as_bytes-bytes.ensures.len)) c.requires.slash

pub returns-in_ok-push-in-Some-clause-ok : goal.returns-in_ok-push-in-Some-clause-ok
returns-in_ok-push-in-Some-clause-ok c = λ width.
    let raw : List ℕ = c.args.raw.now in
    let next : ℕ = c.behind_ascii-next.result in
    step_escape c.args.is_yang_1 width c.args.place.left c.args.place.line c.in-Some.character (string_bytes c.args.text.now) (string_bytes c.push.new.self) raw c.args.place.at next c.behind_ascii.result
    c.behind_ascii-next.ensures.next c.behind_ascii.ensures.next (omega (arith, c.if-next-bytes.false, c.as_bytes-bytes.ensures.len, c.behind_ascii-next.ensures.place.0)) c.requires.slash
    (c.in-Some.ensures.value ∙ ap (λ (t : List ℕ). escape (get_or t next 0)) c.as_bytes-bytes.ensures.value)
    (c.in_ok-push-in-Some.ensures.bytes ∙ ap (λ (t : List ℕ). string_bytes c.args.text.now ++ t) (c.in_ok-push-in-Some.ensures.ascii c.in-Some.ensures.ascii_too))

pub returns-then-is_yang_1-clause-ok : goal.returns-then-is_yang_1-clause-ok
returns-then-is_yang_1-clause-ok c = λ width.
    let raw : List ℕ = c.args.raw.now in
    let next : ℕ = c.behind_ascii-next.result in
    step_itself c.args.is_yang_1 width c.args.place.left c.args.place.line (string_bytes c.args.text.now) (string_bytes c.push-then-is_yang_1.new.self) raw c.args.place.at next c.if-is_yang_1.true
    c.behind_ascii-next.ensures.next (omega (arith, c.if-next-bytes.false, c.as_bytes-bytes.ensures.len, c.behind_ascii-next.ensures.place.0)) c.requires.slash
    (c.in-None.ensures.value ∙ ap (λ (t : List ℕ). escape (get_or t next 0)) c.as_bytes-bytes.ensures.value)
    (c.in_ok-push-in-None.ensures.bytes ∙ ap (λ (t : List ℕ). string_bytes c.args.text.now ++ t) (c.in_ok-push-in-None.ensures.ascii (omega arith)))

pub returns-else-is_yang_1-clause-err : goal.returns-else-is_yang_1-clause-err
returns-else-is_yang_1-clause-err c = λ width.
    let raw : List ℕ = c.args.raw.now in
    let next : ℕ = c.behind_ascii-next.result in
    subst (λ (e : TextFault). Fails (told_by e) (reading_in c.args.is_yang_1 width c.args.place.left c.args.place.line (string_bytes c.args.text.now) (drop c.args.place.at raw))) (sym c.refused.ensures)
    (step_wrong c.args.is_yang_1 width c.args.place.left c.args.place.line (string_bytes c.args.text.now) raw c.args.place.at next c.if-is_yang_1.false
    c.behind_ascii-next.ensures.next (omega (arith, c.if-next-bytes.false, c.as_bytes-bytes.ensures.len, c.behind_ascii-next.ensures.place.0)) c.requires.slash
    (c.in-None.ensures.value ∙ ap (λ (t : List ℕ). escape (get_or t next 0)) c.as_bytes-bytes.ensures.value))
