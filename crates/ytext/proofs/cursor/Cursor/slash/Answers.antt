use Rattle.std.proofs.Common.{◌≡◌, ℕ, List, ◌+◌, ◌-◌, arith, subst, drop, ap, sym, ◌∙◌}
use Rattle.yspec.specs.text.Text.{begins}
use Rattle.ytext.proofs.TokenLemmas.{comment_found, comment_open}
use Rattle.std.specs.Str.{IsCharBoundary}
use Rattle.std.proofs.lemmas.Str.{IsCharBoundary-after_ascii}
use Rattle.ytext.proofs.cursor.Cursor.slash.Goals as goal

pub returns-in-Some-clause-later : goal.returns-in-Some-clause-later
returns-in-Some-clause-later c =
    let end : ℕ = c.in-Some.end in
    let within = c.in-Some.ensures.within in
    let text = c.as_bytes-bytes in
    let bytes : List ℕ = text.result.now in
    let last : (end - 1) + 1 ≡ end = omega (arith, within.0) in
    let place = subst (λ (j : ℕ). IsCharBoundary bytes j) last (IsCharBoundary-after_ascii bytes (end - 1) text.ensures.utf8 (omega (arith, within.0, within.1)) (omega (arith, within.2))) in
    (omega (arith, within.0), subst (λ (t : List ℕ). IsCharBoundary t end) text.ensures.value place)

pub returns-in-Some-clause-front : goal.returns-in-Some-clause-front
returns-in-Some-clause-front c =
    let text = c.args.self.text.now in
    let same = c.as_bytes-bytes.ensures.value in
    let place = c.args.self.at in
    let behind = ap (λ (t : List ℕ). drop (place + 1) t) same in
    comment_found text c.as_bytes-bytes.result.now place c.in-Some.end same c.in-Some.ensures.length
    (ap (begins 47) (sym behind) ∙ sym c.if-stands_at.ensures) (ap (begins 42) (sym behind) ∙ sym c.if-stands_at-2.ensures)

pub returns-in-None-clause-front : goal.returns-in-None-clause-front
returns-in-None-clause-front c =
    let text = c.args.self.text.now in
    let same = c.as_bytes-bytes.ensures.value in
    let place = c.args.self.at in
    let behind = ap (λ (t : List ℕ). drop (place + 1) t) same in
    comment_open text c.as_bytes-bytes.result.now place same c.in-None.ensures.length
    (ap (begins 47) (sym behind) ∙ sym c.if-stands_at.ensures) (ap (begins 42) (sym behind) ∙ sym c.if-stands_at-2.ensures)
