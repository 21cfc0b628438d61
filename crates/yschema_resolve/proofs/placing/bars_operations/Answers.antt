use Rattle.std.proofs.Common.{◌≡◌, ◌&&◌, ◌||◌, Bool, true, false, is_some, not, sym, ap, ◌∙◌}
use Rattle.yspec.specs.linking.Keyword.{key_word, list_word}
use Rattle.yspec.specs.linking.Planned.{is_a, stated_in}
use Rattle.yspec_wide.specs.Sources.{is_operation_part}
use Rattle.ylink_grammar.specs.LanguageView.{language_view}
use Rattle.yschema_plan.specs.PlannedView.{part_at, planned_view}
use Rattle.yschema_resolve.proofs.placing.bars_operations.Goals as goal

pub returns-then-is_operation_part : goal.returns-then-is_operation_part
returns-then-is_operation_part c = λ number.
    let p = planned_view number c.args.planned.now in
    let lacking : Bool = is_a list_word p && not (is_some (stated_in key_word p)) in
    let part : is_operation_part (language_view c.args.language.now) (part_at c.args.planned.now).source ≡ true =
    sym c.is_operation_part.ensures ∙ c.if-is_operation_part.true in
    c.if-is_operation_part.true ∙ sym (ap (λ b. b || lacking) part)

pub returns-else-is_operation_part : goal.returns-else-is_operation_part
returns-else-is_operation_part c = λ number.
    let p = planned_view number c.args.planned.now in
    let lacking : Bool = is_a list_word p && not (is_some (stated_in key_word p)) in
    let other : is_operation_part (language_view c.args.language.now) (part_at c.args.planned.now).source ≡ false =
    sym c.is_operation_part.ensures ∙ c.if-is_operation_part.false in
    c.lacks_key.ensures number ∙ sym (ap (λ b. b || lacking) other)
