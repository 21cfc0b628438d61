use Rattle.std.proofs.Common.{◌≡◌, ◌||◌, false, ltb, Some, None, refl, sym, ap, ap₂, ◌∙◌}
use Rattle.std.specs.Prelude.{option_map}
use Rattle.std.proofs.lemmas.Bool.{lt-ltb, le-ltb}
use Rattle.yspec.specs.linking.SchemaNodes.{is_mandatory, min_elements_of}
use Rattle.yspec.specs.linking.DerivedTypes.{known_named}
use Rattle.ylink_grammar.specs.SourceView.{node_view, stated_view}
use Rattle.ylink.specs.LinkedView as statements
use Rattle.yschema_plan.specs.PlannedView.{planned_view}
use Rattle.yschema_resolve.proofs.DefaultLemmas.{no_default, default_named, without_default}
use Rattle.yschema_resolve.proofs.defaults.type_default.Goals as goal
use Rattle.yschema_resolve.proofs.defaults.type_default.Goals.{then-is_mandatory-via-then-is_mandatory, then-is_mandatory-via-else-is_mandatory+then-min_elements-gt0}

pub returns-then-is_mandatory : goal.returns-then-is_mandatory
returns-then-is_mandatory c = λ plan number named.
    let p = planned_view number c.args.planned.now in
    let said = c.is_mandatory.ensures number in
    elim c.then-is_mandatory.branch [
      | then-is_mandatory-via-then-is_mandatory w ↦
          no_default plan p (ap (λ b. b || ltb 0 (min_elements_of p)) (sym said ∙ w.if-is_mandatory.true))
      | then-is_mandatory-via-else-is_mandatory+then-min_elements-gt0 w ↦
          no_default plan p (ap₂ (λ b n. b || ltb 0 n) (sym said ∙ w.if-is_mandatory.false) (sym (w.min_elements.ensures number))
          ∙ lt-ltb 0 w.min_elements.result w.if-min_elements-gt0.true)
    ]

pub returns-in_err-statement : goal.returns-in_err-statement
returns-in_err-statement c = λ plan number named.
    let p = planned_view number c.args.planned.now in
    ap (option_map stated_view) c.from_residual.ensures
    ∙ without_default plan p None (ap (option_map node_view) (sym c.in_err-statement.was) ∙ c.first_own.ensures) refl

pub returns-in_err-text : goal.returns-in_err-text
returns-in_err-text c = λ plan number named.
    let p = planned_view number c.args.planned.now in
    let s = c.in_ok-statement.statement in
    ap (option_map stated_view) c.from_residual-in_err-text.ensures
    ∙ without_default plan p (Some (node_view s)) (ap (option_map node_view) (sym c.in_ok-statement.was) ∙ c.first_own.ensures)
    (ap (option_map stated_view) (sym c.in_err-text.was) ∙ (c.default_named.ensures ∙ (ap (λ n. (known_named (statements.view c.args.linked.now) n).default) c.number.ensures
    ∙ ap (λ modules. (known_named modules s.number).default) named)))

pub returns : goal.returns
returns c = λ plan number named.
    let p = planned_view number c.args.planned.now in
    let s = c.in_ok-statement.statement in
    let may : (is_mandatory p || ltb 0 (min_elements_of p)) ≡ false =
    ap₂ (λ b n. b || ltb 0 n) (sym (c.is_mandatory.ensures number) ∙ c.if-is_mandatory.false) (sym (c.min_elements.ensures number))
    ∙ le-ltb 0 c.min_elements.result c.if-min_elements-gt0.false in
    default_named plan p (Some (node_view s)) (Some (stated_view c.in_ok-text.text)) may
    (ap (option_map node_view) (sym c.in_ok-statement.was) ∙ c.first_own.ensures)
    (ap (option_map stated_view) (sym c.in_ok-text.was) ∙ (c.default_named.ensures ∙ (ap (λ n. (known_named (statements.view c.args.linked.now) n).default) c.number.ensures
    ∙ ap (λ modules. (known_named modules s.number).default) named)))
