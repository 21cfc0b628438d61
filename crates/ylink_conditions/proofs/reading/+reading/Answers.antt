use Rattle.std.proofs.Common.{◌≡◌, suc, ◌-◌, map, ap, sym, ◌∙◌, arith}
use Rattle.std.proofs.lemmas.Result.{IfOk-weaker}
use Rattle.yspec_wide.specs.Expressions as spec
use Rattle.ylink_conditions.specs.View.{level_view, read_view, token_view}
use Rattle.ylink_conditions.proofs.ReadingLemmas.{read_none, read_expression, read_term, read_factor}
use Rattle.ylink_conditions.proofs.reading.+reading.Goals as goal

pub read_level-returns-then-steps-eq0 : goal.read_level-returns-then-steps-eq0
read_level-returns-then-steps-eq0 t c =
    read_none c.args.steps (level_view c.args.level) (map token_view c.args.tokens.now) (omega (arith, c.if-steps-eq0.true))

pub read_level-returns-in_ok-first-in-Expression : goal.read_level-returns-in_ok-first-in-Expression
read_level-returns-in_ok-first-in-Expression t c =
    let n = c.args.steps in
    let tokens = map token_view c.args.tokens.now in
    let more : n ≡ suc (n - 1) = omega (arith, c.if-steps-eq0.false) in
    IfOk-weaker c.behind_term.result (λ found. read_view found ≡ spec.behind_term (spec.read (n - 1)) (read_view c.in_ok-first-in-Expression.first))
    (λ found. read_view found ≡ spec.read n (level_view c.args.level) tokens)
    (λ found is. is ∙ (read_expression n (n - 1) tokens more _ c.in_ok-first-in-Expression.ensures ∙ ap (λ l. spec.read n (level_view l) tokens) (sym c.in-Expression.is)))
    c.behind_term.ensures

pub read_level-returns-in_ok-first-in-Term : goal.read_level-returns-in_ok-first-in-Term
read_level-returns-in_ok-first-in-Term t c =
    let n = c.args.steps in
    let tokens = map token_view c.args.tokens.now in
    let more : n ≡ suc (n - 1) = omega (arith, c.if-steps-eq0.false) in
    IfOk-weaker c.behind_factor.result (λ found. read_view found ≡ spec.behind_factor (spec.read (n - 1)) (read_view c.in_ok-first-in-Term.first))
    (λ found. read_view found ≡ spec.read n (level_view c.args.level) tokens)
    (λ found is. is ∙ (read_term n (n - 1) tokens more _ c.in_ok-first-in-Term.ensures ∙ ap (λ l. spec.read n (level_view l) tokens) (sym c.in-Term.is)))
    c.behind_factor.ensures

pub read_level-returns-in-Factor : goal.read_level-returns-in-Factor
read_level-returns-in-Factor t c =
    let n = c.args.steps in
    let tokens = map token_view c.args.tokens.now in
    let more : n ≡ suc (n - 1) = omega (arith, c.if-steps-eq0.false) in
    IfOk-weaker c.one_factor.result (λ found. read_view found ≡ spec.one_factor (spec.read (n - 1)) tokens)
    (λ found. read_view found ≡ spec.read n (level_view c.args.level) tokens)
    (λ found is. is ∙ (read_factor n (n - 1) tokens more ∙ ap (λ l. spec.read n (level_view l) tokens) (sym c.in-Factor.is)))
    c.one_factor.ensures
