use Rattle.std.proofs.Common.{rules, ◌≡◌, ◌∷◌, None, Some, map, sym, ap, ◌∙◌}
use Rattle.std.specs.Prelude.{option_and_then}
use Rattle.yspec.specs.linking.Prefixes as spec
use Rattle.ylink_arguments.specs.NameView.{name_view, names_view}
use Rattle.yschema_expand.specs.Indexing.{led, led_on, look_in}
use Rattle.yschema_expand.proofs.IndexLemmas.{led_next, led_nowhere}
use Rattle.yschema_expand.proofs.indexing.TargetIndex.number_at.Goals as goal

pub loop-name-init : goal.loop-name-init
loop-name-init c = λ modules of_it.
    let look = look_in c.args.self.now in
    let above = c.args.self.now.parent in
    let named = spec.node_name modules c.args.home c.args.owner in
    let first = named (name_view c.in_ok-first.first.now) in
    let steps = map named (names_view c.in_ok-first.left.now) in
    let split : c.args.path.now ≡ c.in_ok-first.first.now ∷ c.in_ok-first.left.now = search rules in
    let found : Some c.in_ok-number.number ≡ look above first =
    sym c.in_ok-number.was ∙ (c.child.ensures ∙ ap (look above) (c.node_name.ensures modules of_it)) in
    ap (option_and_then (λ n. led_on look n steps)) found ∙ ap (λ p. led look above (map named (names_view p))) (sym split)

pub returns-in_err-number-2 : goal.returns-in_err-number-2
returns-in_err-number-2 c = λ modules of_it.
    let look = look_in c.args.self.now in
    let number = c.loop-name.number in
    let named = spec.node_name modules c.args.home c.args.owner in
    let step = named (name_view c.in-Some.name.now) in
    let steps = map named (names_view c.in-Some.steps.now) in
    let split : c.loop-name.left.now ≡ c.in-Some.name.now ∷ c.in-Some.steps.now = search rules in
    let none : None ≡ look (Some number) step =
    sym c.in_err-number-2.was ∙ (c.child-in-Some.ensures ∙ ap (look (Some number)) (c.node_name-in-Some.ensures modules of_it)) in
    c.from_residual-in_err-number-2.ensures
    ∙ (led_nowhere look number step steps none
    ∙ (ap (λ p. led_on look number (map named (names_view p))) (sym split) ∙ c.loop-name.invariant modules of_it))

pub loop-name-preserved : goal.loop-name-preserved
loop-name-preserved c = λ modules of_it.
    let look = look_in c.args.self.now in
    let number = c.loop-name.number in
    let named = spec.node_name modules c.args.home c.args.owner in
    let step = named (name_view c.in-Some.name.now) in
    let steps = map named (names_view c.in-Some.steps.now) in
    let split : c.loop-name.left.now ≡ c.in-Some.name.now ∷ c.in-Some.steps.now = search rules in
    let found : Some c.in_ok-number-2.number ≡ look (Some number) step =
    sym c.in_ok-number-2.was ∙ (c.child-in-Some.ensures ∙ ap (look (Some number)) (c.node_name-in-Some.ensures modules of_it)) in
    led_next look number c.in_ok-number-2.number step steps found
    ∙ (ap (λ p. led_on look number (map named (names_view p))) (sym split) ∙ c.loop-name.invariant modules of_it)
