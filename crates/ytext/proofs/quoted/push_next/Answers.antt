use Rattle.std.proofs.Common.{List, ℕ, ◌+◌, ◌++◌, drop, get_or, ◌==◌, ◌&&◌, sym, ap, ◌∙◌, arith, string_bytes}
use Rattle.yspec.specs.text.Text.{begins}
use Rattle.ytext.specs.Quoted.{is_break}
use Rattle.ytext.proofs.QuotedLemmas.{step_feed, step_return, step_dropped, step_kept, solid_at, returned}
use Rattle.ytext.proofs.quoted.push_next.Goals as goal

pub returns-then-breaks_at-clause-ok : goal.returns-then-breaks_at-clause-ok
returns-then-breaks_at-clause-ok c =
    let end : ℕ = c.blanks_end-end.result in
    step_dropped c.args.is_yang_1 c.args.width c.args.place.left c.args.place.line (string_bytes c.args.text.now) c.args.raw.now c.args.place.at end
    c.blanks_end-end.ensures.forward c.blanks_end-end.ensures.blank
    (ap (λ (t : List ℕ). is_break (drop end t)) (sym c.as_bytes-bytes.ensures.value) ∙ sym c.if-breaks_at.ensures.cases)

pub returns-then-is_blank-clause-ok : goal.returns-then-is_blank-clause-ok
returns-then-is_blank-clause-ok c =
    let end : ℕ = c.blanks_end-end.result in
    step_kept c.args.is_yang_1 c.args.width c.args.place.left c.args.place.line (string_bytes c.args.text.now) (string_bytes c.push_blanks.new.text) c.args.raw.now c.args.place.at end
    c.blanks_end-end.ensures.forward c.blanks_end-end.ensures.blank
    (solid_at c.args.raw.now end c.blanks_end-end.ensures.ends (ap (λ (t : List ℕ). is_break (drop end t)) (sym c.as_bytes-bytes.ensures.value) ∙ sym c.if-breaks_at.ensures.cases))
    c.in_ok-push_blanks.ensures

pub returns-then-bytes-at-eq10-clause-ok : goal.returns-then-bytes-at-eq10-clause-ok
returns-then-bytes-at-eq10-clause-ok c =
    let at : ℕ = c.args.place.at in
    step_feed c.args.is_yang_1 c.args.width c.args.place.left c.args.place.line (string_bytes c.args.text.now) (string_bytes c.push.new.self) c.args.raw.now at c.behind_ascii.result
    c.requires.within (ap (λ (t : List ℕ). get_or t at 0) (sym c.as_bytes-bytes.ensures.value) ∙ c.if-bytes-at-eq10.true)
    (c.in_ok-push.ensures.bytes ∙ ap (λ (t : List ℕ). string_bytes c.args.text.now ++ t) (c.in_ok-push.ensures.ascii (omega arith))) c.behind_ascii.ensures.next

pub returns-then-returns_at-clause-ok : goal.returns-then-returns_at-clause-ok
returns-then-returns_at-clause-ok c =
    let at : ℕ = c.args.place.at in
    let both = ap (λ (t : List ℕ). get_or t at 0 == 13 && begins 10 (drop (at + 1) t)) (sym c.as_bytes-bytes.ensures.value) ∙ sym c.if-returns_at.ensures.cases in
    let parts = returned c.args.raw.now at both in
    step_return c.args.is_yang_1 c.args.width c.args.place.left c.args.place.line (string_bytes c.args.text.now) c.args.raw.now at c.behind_ascii-then-returns_at.result
    c.requires.within parts.0 parts.1 c.behind_ascii-then-returns_at.ensures.next
