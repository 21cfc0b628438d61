use Rattle.std.proofs.Common.{◌≡◌, ◌&&◌, true, false, not, sym, ap, ◌∙◌}
use Rattle.yspec_wide.specs.Expansion.{is_closed}
use Rattle.ybase_preorder.specs.View.{row_by}
use Rattle.ylink_grammar.specs.LanguageView.{language_view}
use Rattle.ylink_grammar.specs.SourceView.{source_view}
use Rattle.yschema_expand.specs.NodeView.{part_view}
use Rattle.yschema_expand.specs.Taking.{may_take}
use Rattle.yschema_expand.proofs.taking.holds_by.Goals as goal

pub returns-then-takes : goal.returns-then-takes
returns-then-takes c =
    let s = (part_view c.args.node.now).source in
    let given = row_by source_view c.args.statements in
    let taken : may_take c.args.old s.keyword given ≡ true = sym (c.may_take-takes.ensures ∙ ap (λ k. may_take c.args.old k given) c.keyword.ensures) ∙ c.if-takes.true in
    ap not c.is_closed.ensures ∙ sym (ap (λ b. b && not (is_closed (language_view c.args.language.now) given s)) taken)

pub returns-else-takes : goal.returns-else-takes
returns-else-takes c =
    let s = (part_view c.args.node.now).source in
    let given = row_by source_view c.args.statements in
    let taken : may_take c.args.old s.keyword given ≡ false = sym (c.may_take-takes.ensures ∙ ap (λ k. may_take c.args.old k given) c.keyword.ensures) ∙ c.if-takes.false in
    c.if-takes.false ∙ sym (ap (λ b. b && not (is_closed (language_view c.args.language.now) given s)) taken)
