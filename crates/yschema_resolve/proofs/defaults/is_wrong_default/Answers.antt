use Rattle.std.proofs.Common.{◌≡◌, length, map, not, arith, sym, ap, ◌∙◌}
use Rattle.std.specs.Prelude.{◌==◌, vec_len}
use Rattle.std.proofs.lemmas.Result.{IfOk-weaker}
use Rattle.ylink_grammar.specs.SourceView.{stated_view}
use Rattle.yschema_plan.specs.PlannedView.{planned_view}
use Rattle.yschema_types.specs.TypesView.{unmarked_view}
use Rattle.yschema_resolve.proofs.DefaultLemmas.{refused_as, wrong_beside, wrong_refused}
use Rattle.yschema_resolve.proofs.defaults.is_wrong_default.Goals as goal

pub returns-then-is_mandatory : goal.returns-then-is_mandatory
returns-then-is_mandatory c = λ language plan number of_plan unmarked.
    let count : vec_len c.in_ok-stated.stated ≡ length c.in_ok-stated.stated.items = omega arith in
    ap not (c.is_empty.ensures ∙ ap (λ n. n == 0) count)
    ∙ wrong_beside language plan (planned_view number c.args.planned.now) c.args.value_type.now c.in_ok-stated.stated.items (c.in_ok-stated.ensures number)
    (sym (c.is_mandatory.ensures number) ∙ c.if-is_mandatory.true)

pub returns : goal.returns
returns c = λ language plan number of_plan unmarked.
    let type = c.args.value_type.now in
    let p = planned_view number c.args.planned.now in
    let texts = ap (map stated_view) c.deref.ensures.value ∙ c.in_ok-texts.ensures language plan number of_plan in
    IfOk-weaker c.is_any_refused.result _ _ (λ told so. wrong_refused language plan p type told
    (so ∙ refused_as language plan p type c.args.resolved.now.modules of_plan.modules (unmarked_view type c.args.unmarked) unmarked (map stated_view c.deref.result.now) texts)
    (sym (c.is_mandatory.ensures number) ∙ c.if-is_mandatory.false)) c.is_any_refused.ensures
