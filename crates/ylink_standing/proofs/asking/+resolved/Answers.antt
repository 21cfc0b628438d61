use Rattle.std.proofs.Common.{◌≡◌, rules, sym, ap, ap₂, ◌∙◌}
use Rattle.std.proofs.lemmas.Result.{IfOk-weaker}
use Rattle.ylink_conditions.specs.View.{expression_view}
use Rattle.ylink_standing.specs.AskingView.{on_number, not_asked, both_asked, one_asked, condition_view, resolved, number_meant}
use Rattle.ylink_standing.proofs.asking.+resolved.Goals as goal

pub returns-in-Feature : goal.returns-in-Feature
returns-in-Feature t c language modules meant =
    let number = number_meant language modules c.args.home in
    ap (λ n. on_number n) (c.named.ensures language modules meant.prefixes_are meant.features_are)
    ∙ ap (λ e. resolved number (expression_view e)) (sym c.in-Feature.is)

pub returns-in_ok-condition-in-Not : goal.returns-in_ok-condition-in-Not
returns-in_ok-condition-in-Not t c language modules meant =
    let number = number_meant language modules c.args.home in
    let opened : c.deref.result.now ≡ c.in-Not.inner.value = first_of (search rules, cc) in
    IfOk-weaker c.negated.result (λ a. condition_view a ≡ not_asked (condition_view c.in_ok-condition-in-Not.condition))
    (λ a. condition_view a ≡ resolved number (expression_view c.args.expression.now))
    (λ a is. is ∙ (ap not_asked (c.in_ok-condition-in-Not.ensures language modules meant ∙ ap (λ e. resolved number (expression_view e)) opened) ∙ ap (λ e. resolved number (expression_view e)) (sym c.in-Not.is)))
    c.negated.ensures

pub returns-in_ok-right-in-Both : goal.returns-in_ok-right-in-Both
returns-in_ok-right-in-Both t c language modules meant =
    let number = number_meant language modules c.args.home in
    let first : c.deref-in-Both.result.now ≡ c.in-Both.first.value = first_of (search rules, cc) in
    let second : c.deref-in-Both-2.result.now ≡ c.in-Both.second.value = first_of (search rules, cc) in
    IfOk-weaker c.both.result (λ a. condition_view a ≡ both_asked (condition_view c.in_ok-left-in-Both.left) (condition_view c.in_ok-right-in-Both.right))
    (λ a. condition_view a ≡ resolved number (expression_view c.args.expression.now))
    (λ a is. is ∙ (ap₂ (λ x y. both_asked x y) (c.in_ok-left-in-Both.ensures language modules meant ∙ ap (λ e. resolved number (expression_view e)) first)
    (c.in_ok-right-in-Both.ensures language modules meant ∙ ap (λ e. resolved number (expression_view e)) second)
    ∙ ap (λ e. resolved number (expression_view e)) (sym c.in-Both.is)))
    c.both.ensures

pub returns-in_ok-other-in-OneOf : goal.returns-in_ok-other-in-OneOf
returns-in_ok-other-in-OneOf t c language modules meant =
    let number = number_meant language modules c.args.home in
    let first : c.deref-in-OneOf.result.now ≡ c.in-OneOf.first.value = first_of (search rules, cc) in
    let second : c.deref-in-OneOf-2.result.now ≡ c.in-OneOf.second.value = first_of (search rules, cc) in
    IfOk-weaker c.either.result (λ a. condition_view a ≡ one_asked (condition_view c.in_ok-one-in-OneOf.one) (condition_view c.in_ok-other-in-OneOf.other))
    (λ a. condition_view a ≡ resolved number (expression_view c.args.expression.now))
    (λ a is. is ∙ (ap₂ (λ x y. one_asked x y) (c.in_ok-one-in-OneOf.ensures language modules meant ∙ ap (λ e. resolved number (expression_view e)) first)
    (c.in_ok-other-in-OneOf.ensures language modules meant ∙ ap (λ e. resolved number (expression_view e)) second)
    ∙ ap (λ e. resolved number (expression_view e)) (sym c.in-OneOf.is)))
    c.either.ensures
