use Rattle.std.proofs.Common.{◌≡◌, ◌&&◌, true, false, not, sym, ap, ◌∙◌}
use Rattle.yspec_wide.specs.Sources.{is_operation}
use Rattle.ylink_grammar.specs.LanguageView.{language_view}
use Rattle.yschema_expand.specs.NodeView.{part_view}
use Rattle.yschema_given.specs.Holding.{holds_in, kept_hold}
use Rattle.yschema_cut.proofs.nodes.stands.Goals as goal

pub returns-then-not-is_operation : goal.returns-then-not-is_operation
returns-then-not-is_operation c =
    let p = part_view c.args.node.now in
    let other : is_operation (language_view c.args.language.now) p.source ≡ false = sym c.is_operation.ensures ∙ c.if-not-is_operation.true in
    c.holds.ensures ∙ sym (ap (λ b. not b && kept_hold (holds_in c.args.holding.now) p.own) other)

pub returns-else-not-is_operation : goal.returns-else-not-is_operation
returns-else-not-is_operation c =
    let p = part_view c.args.node.now in
    let own : is_operation (language_view c.args.language.now) p.source ≡ true = sym c.is_operation.ensures ∙ c.if-not-is_operation.false in
    ap not c.if-not-is_operation.false ∙ sym (ap (λ b. not b && kept_hold (holds_in c.args.holding.now) p.own) own)
