use Rattle.std.proofs.Common.{◌≡◌, Some, None, option_map, sym, ap, ◌∙◌}
use Rattle.std.proofs.lemmas.Result.{IfOk-weaker}
use Rattle.yspec_wide.specs.Expressions.{expression_of}
use Rattle.ytext.specs.View as text
use Rattle.ylink_conditions.specs.View.{expression_view, version_view}
use Rattle.ylink_grammar.specs.NamedType.{argument_text}
use Rattle.ylink_standing.specs.AskingView.{condition_view, resolved, resolved_or, number_meant}
use Rattle.ylink_standing.proofs.asking.asked_in.Goals as goal

pub returns-in-Some : goal.returns-in-Some
returns-in-Some c language modules meant =
    let number = number_meant language modules c.args.condition.now.home in
    let spelled = sym (ap (option_map expression_view) c.in-Some.is) ∙ (c.in_ok-spelled.ensures ∙ ap (expression_of (version_view c.args.version)) c.argument.ensures) in
    IfOk-weaker c.resolved.result (λ a. condition_view a ≡ resolved number (expression_view c.in-Some.expression))
    (λ a. condition_view a ≡ resolved_or number (expression_of (version_view c.args.version) (argument_text (text.view c.args.condition.now.statement.now).0)))
    (λ a is. is ∙ ap (resolved_or number) spelled)
    (c.resolved.ensures language modules meant)

pub returns-in-None : goal.returns-in-None
returns-in-None c language modules meant =
    ap (resolved_or (number_meant language modules c.args.condition.now.home))
    (sym (ap (option_map expression_view) c.in-None.is) ∙ (c.in_ok-spelled.ensures ∙ ap (expression_of (version_view c.args.version)) c.argument.ensures))
