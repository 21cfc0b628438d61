use Rattle.std.proofs.Common.{not, ◌&&◌, sym, ap, ◌∙◌}
use Rattle.ylink_grammar.specs.LanguageView.{language_view}
use Rattle.yschema_plan.specs.PlanView.{view}
use Rattle.yschema_resolve.proofs.AdditionLemmas.{let_by_both}
use Rattle.yschema_resolve.proofs.additions.is_let_add.Goals as goal

pub returns-then-bears_when_at : goal.returns-then-bears_when_at
returns-then-bears_when_at c =
    let l = language_view c.args.language.now in
    let plan = view c.args.plan.now in
    sym (ap (λ b. b && not c.is_of_yang_1-is_first.result) c.if-bears_when_at.true)
    ∙ let_by_both l plan c.args.number c.bears_when_at.result c.is_of_yang_1-is_first.result c.bears_when_at.ensures (c.is_of_yang_1-is_first.ensures l c.requires)

pub returns-else-bears_when_at : goal.returns-else-bears_when_at
returns-else-bears_when_at c =
    let l = language_view c.args.language.now in
    let plan = view c.args.plan.now in
    c.if-bears_when_at.false ∙ (sym (ap (λ b. b && not c.is_of_yang_1-is_first.result) c.if-bears_when_at.false)
    ∙ let_by_both l plan c.args.number c.bears_when_at.result c.is_of_yang_1-is_first.result c.bears_when_at.ensures (c.is_of_yang_1-is_first.ensures l c.requires))
