use Rattle.std.proofs.Common.{◌≡◌, ◌&&◌, ◌||◌, true, false, not, sym, ap, ap₂, ◌∙◌}
use Rattle.yspec.specs.linking.Keyword.{container_word, list_word, same_keyword}
use Rattle.yspec.specs.linking.Source.{is_source_of}
use Rattle.yspec_wide.specs.Sources.{is_operation_part}
use Rattle.ylink_grammar.specs.LanguageView.{language_view}
use Rattle.yschema_expand.specs.NodeView.{part_view}
use Rattle.yschema_expand.proofs.taking.takes_operations.Goals as goal

pub returns-then-is : goal.returns-then-is
returns-then-is c =
    let s = (part_view c.args.node.now).source in
    let own : is_operation_part (language_view c.args.language.now) s ≡ false = sym c.is_operation_part.ensures ∙ c.if-not-is_operation_part.true in
    let first : is_source_of container_word s ≡ true = sym (c.is.ensures ∙ ap (same_keyword container_word) c.keyword-keyword.ensures) ∙ c.if-is.true in
    c.if-is.true ∙ sym (ap₂ (λ p k. not p && (k || is_source_of list_word s)) own first)

pub returns-else-is : goal.returns-else-is
returns-else-is c =
    let s = (part_view c.args.node.now).source in
    let own : is_operation_part (language_view c.args.language.now) s ≡ false = sym c.is_operation_part.ensures ∙ c.if-not-is_operation_part.true in
    let first : is_source_of container_word s ≡ false = sym (c.is.ensures ∙ ap (same_keyword container_word) c.keyword-keyword.ensures) ∙ c.if-is.false in
    c.is-else-is.ensures ∙ (ap (same_keyword list_word) c.keyword-keyword.ensures
    ∙ sym (ap₂ (λ p k. not p && (k || is_source_of list_word s)) own first))

pub returns-else-not-is_operation_part : goal.returns-else-not-is_operation_part
returns-else-not-is_operation_part c =
    let s = (part_view c.args.node.now).source in
    let own : is_operation_part (language_view c.args.language.now) s ≡ true = sym c.is_operation_part.ensures ∙ c.if-not-is_operation_part.false in
    ap not c.if-not-is_operation_part.false ∙ sym (ap (λ p. not p && (is_source_of container_word s || is_source_of list_word s)) own)
