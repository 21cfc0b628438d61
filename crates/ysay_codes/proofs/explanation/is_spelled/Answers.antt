use Rattle.std.proofs.Common.{◌≡◌, refl, ap, sym, ◌∙◌}
use Rattle.std.specs.Prelude.{◌&&◌, false, true}
use Rattle.std.specs.Str.{bytes_eq}
use Rattle.ysay_codes.proofs.SpellingLemmas.{spelled_by}
use Rattle.ysay_codes.proofs.explanation.is_spelled.Goals as goal

pub returns-then-eq : goal.returns-then-eq
returns-then-eq c =
    let by = spelled_by c.args.front.now c.args.back.now c.args.code.now _ _ _ _ c.as_bytes.ensures.value refl c.in-Some.ensures.cases in
    let first = sym c.if-eq.true ∙ (c.eq.ensures ∙ ap (λ t. bytes_eq t c.in-Some.first.now) c.as_bytes-in-Some.ensures.value) in
    c.eq-then-eq.ensures ∙ (ap (λ t. bytes_eq t c.in-Some.rest.now) c.as_bytes-then-eq.ensures.value
    ∙ (ap (λ p. p && bytes_eq c.args.back.now c.in-Some.rest.now) first ∙ sym by))

pub returns-else-eq : goal.returns-else-eq
returns-else-eq c =
    let by = spelled_by c.args.front.now c.args.back.now c.args.code.now _ _ _ _ c.as_bytes.ensures.value refl c.in-Some.ensures.cases in
    let first = sym c.if-eq.false ∙ (c.eq.ensures ∙ ap (λ t. bytes_eq t c.in-Some.first.now) c.as_bytes-in-Some.ensures.value) in
    c.if-eq.false ∙ (ap (λ p. p && bytes_eq c.args.back.now c.in-Some.rest.now) first ∙ sym by)
