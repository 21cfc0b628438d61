use Rattle.std.proofs.Common.{false, ap, ap₂, sym, ◌∙◌}
use Rattle.yspec.specs.linking.SchemaNodes.{is_mandatory, absent_by}
use Rattle.yspec_wide.specs.Types.{default_values_in}
use Rattle.ylink_grammar.specs.LanguageView.{language_view}
use Rattle.yschema_plan.specs.NodesView.{node_view}
use Rattle.yschema_plan.specs.PlanView.{view}
use Rattle.yschema.proofs.MakingLemmas.{absent_as}
use Rattle.yschema.proofs.making.absence_of.Goals as goal

pub returns-then-is_key : goal.returns-then-is_key
returns-then-is_key c =
    let plan = view c.args.plan.now in
    let p = node_view c.args.node in
    let as_key = sym c.if-is_key.true ∙ c.is_key.ensures (language_view c.args.language.now) plan p c.requires.of_plan c.requires.stands in
    ap (λ b. absent_as b (is_mandatory p) (default_values_in (language_view c.args.language.now) plan p)) as_key

pub returns-then-is_mandatory : goal.returns-then-is_mandatory
returns-then-is_mandatory c =
    let plan = view c.args.plan.now in
    let p = node_view c.args.node in
    let as_key = sym c.if-is_key.false ∙ c.is_key.ensures (language_view c.args.language.now) plan p c.requires.of_plan c.requires.stands in
    let must = sym c.if-is_mandatory.true ∙ c.is_mandatory.ensures c.args.node.number in
    ap₂ (λ b m. absent_as b m (default_values_in (language_view c.args.language.now) plan p)) as_key must

pub returns-in-Some : goal.returns-in-Some
returns-in-Some c =
    let plan = view c.args.plan.now in
    let p = node_view c.args.node in
    let as_key = sym c.if-is_key.false ∙ c.is_key.ensures (language_view c.args.language.now) plan p c.requires.of_plan c.requires.stands in
    let must = sym c.if-is_mandatory.false ∙ c.is_mandatory.ensures c.args.node.number in
    ap absent_by c.in-Some.ensures ∙ (ap (absent_as false false) c.in_ok-defaults.ensures ∙ ap₂ (λ b m. absent_as b m (default_values_in (language_view c.args.language.now) plan p)) as_key must)

pub returns-in-None : goal.returns-in-None
returns-in-None c =
    let plan = view c.args.plan.now in
    let p = node_view c.args.node in
    let as_key = sym c.if-is_key.false ∙ c.is_key.ensures (language_view c.args.language.now) plan p c.requires.of_plan c.requires.stands in
    let must = sym c.if-is_mandatory.false ∙ c.is_mandatory.ensures c.args.node.number in
    ap absent_by c.in-None.ensures ∙ (ap (absent_as false false) c.in_ok-defaults.ensures ∙ ap₂ (λ b m. absent_as b m (default_values_in (language_view c.args.language.now) plan p)) as_key must)
