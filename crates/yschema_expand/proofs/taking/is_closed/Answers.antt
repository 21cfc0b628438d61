use Rattle.std.proofs.Common.{◌≡◌, ◌&&◌, ◌||◌, Bool, true, false, not, sym, ap, ap₂, ◌∙◌}
use Rattle.std.specs.List.{list_any}
use Rattle.yspec.specs.Forest.{row}
use Rattle.yspec_wide.specs.Expansion.{takes_operations}
use Rattle.yspec_wide.specs.Sources.{is_call, is_operation}
use Rattle.ybase_preorder.specs.View.{row_by}
use Rattle.ylink_grammar.specs.LanguageView.{language_view}
use Rattle.ylink_grammar.specs.SourceView.{source_view}
use Rattle.yschema_expand.specs.NodeView.{part_view}
use Rattle.yschema_expand.proofs.taking.is_closed.Goals as goal

pub returns-then-is_call : goal.returns-then-is_call
returns-then-is_call c =
    let l = language_view c.args.language.now in
    let s = (part_view c.args.node.now).source in
    let call : is_call l s ≡ true = sym c.is_call.ensures ∙ c.if-is_call.true in
    let bears : Bool = list_any (is_operation l) (row (row_by source_view c.args.statements)) in
    c.if-is_call.true ∙ sym (ap (λ a. a || (bears && not (takes_operations l s))) call)

pub returns-then-bears : goal.returns-then-bears
returns-then-bears c =
    let l = language_view c.args.language.now in
    let s = (part_view c.args.node.now).source in
    let call : is_call l s ≡ false = sym c.is_call.ensures ∙ c.if-is_call.false in
    ap not c.takes_operations.ensures
    ∙ sym (ap₂ (λ a b. a || (b && not (takes_operations l s))) call (sym c.bears_operations-bears.ensures ∙ c.if-bears.true))

pub returns-else-bears : goal.returns-else-bears
returns-else-bears c =
    let l = language_view c.args.language.now in
    let s = (part_view c.args.node.now).source in
    let call : is_call l s ≡ false = sym c.is_call.ensures ∙ c.if-is_call.false in
    c.if-bears.false
    ∙ sym (ap₂ (λ a b. a || (b && not (takes_operations l s))) call (sym c.bears_operations-bears.ensures ∙ c.if-bears.false))
