use Rattle.std.proofs.Common.{◌≡◌, length, map, not, arith, ap, ◌∙◌}
use Rattle.std.specs.Prelude.{◌==◌, vec_len}
use Rattle.std.specs.List.{filter_map}
use Rattle.std.proofs.lemmas.Result.{IfOk-weaker}
use Rattle.yspec.specs.types.Order.{same_value}
use Rattle.yspec.specs.linking.SchemaNodes.{value_stated}
use Rattle.ylink_grammar.specs.SourceView.{stated_view}
use Rattle.yschema_plan.specs.PlannedView.{planned_view}
use Rattle.yschema_types.specs.TypesView.{unmarked_view}
use Rattle.yschema_resolve.specs.Values.{comes_twice}
use Rattle.yschema_resolve.proofs.DefaultLemmas.{refused_as, same_values, wrong_least, wrong_one, wrong_twice, right_state}
use Rattle.yschema_resolve.proofs.defaults.are_wrong_defaults.Goals as goal

pub returns-then-min_elements-gt0 : goal.returns-then-min_elements-gt0
returns-then-min_elements-gt0 c = λ language plan number of_plan unmarked.
    let count : vec_len c.in_ok-stated.stated ≡ length c.in_ok-stated.stated.items = omega arith in
    ap not (c.is_empty.ensures ∙ ap (λ n. n == 0) count)
    ∙ wrong_least language plan (planned_view number c.args.planned.now) c.args.value_type.now c.in_ok-stated.stated.items (c.in_ok-stated.ensures number)
    c.min_elements.result (c.min_elements.ensures number) c.if-min_elements-gt0.true

pub returns-then-branch : goal.returns-then-branch
returns-then-branch c = λ language plan number of_plan unmarked.
    let type = c.args.value_type.now in
    let p = planned_view number c.args.planned.now in
    let texts = ap (map stated_view) c.deref.ensures.value ∙ c.in_ok-texts.ensures language plan number of_plan in
    wrong_one language plan p type c.min_elements.result (c.min_elements.ensures number) c.if-min_elements-gt0.false c.in_ok-is_any_refused.field-0
    (c.in_ok-is_any_refused.ensures ∙ refused_as language plan p type c.args.resolved.now.modules of_plan.modules (unmarked_view type c.args.unmarked) unmarked (map stated_view c.deref.result.now) texts)
    c.if-branch.true

pub returns-then-planned : goal.returns-then-planned
returns-then-planned c = λ language plan number of_plan unmarked.
    let type = c.args.value_type.now in
    let p = planned_view number c.args.planned.now in
    let texts = ap (map stated_view) c.deref.ensures.value ∙ c.in_ok-texts.ensures language plan number of_plan in
    let taken = c.in_ok-values.ensures ∙ (same_values c.args.resolved.now.modules plan of_plan.modules type _
    ∙ ap (λ ts. filter_map (value_stated plan type) (map stated_view ts)) c.deref-then-planned.ensures.value) in
    IfOk-weaker c.comes_twice.result _ _ (λ wrong so. so ∙ (ap (comes_twice same_value) c.deref-then-planned-2.ensures.value
    ∙ wrong_twice language plan p type c.min_elements.result (c.min_elements.ensures number) c.if-min_elements-gt0.false c.in_ok-is_any_refused.field-0
    (c.in_ok-is_any_refused.ensures ∙ refused_as language plan p type c.args.resolved.now.modules of_plan.modules (unmarked_view type c.args.unmarked) unmarked (map stated_view c.deref.result.now) texts)
    c.if-branch.false c.if-planned.true (map stated_view c.in_ok-texts.texts.items) (c.in_ok-texts.ensures language plan number of_plan) c.in_ok-values.values.items taken)) c.comes_twice.ensures

pub returns : goal.returns
returns c = λ language plan number of_plan unmarked.
    let type = c.args.value_type.now in
    let p = planned_view number c.args.planned.now in
    let texts = ap (map stated_view) c.deref.ensures.value ∙ c.in_ok-texts.ensures language plan number of_plan in
    right_state language plan p type c.min_elements.result (c.min_elements.ensures number) c.if-min_elements-gt0.false c.in_ok-is_any_refused.field-0
    (c.in_ok-is_any_refused.ensures ∙ refused_as language plan p type c.args.resolved.now.modules of_plan.modules (unmarked_view type c.args.unmarked) unmarked (map stated_view c.deref.result.now) texts)
    c.if-branch.false c.if-planned.false
