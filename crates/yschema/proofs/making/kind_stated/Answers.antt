use Rattle.std.proofs.Common.{ap, ap₂, sym, ◌∙◌}
use Rattle.yspec.specs.schema.Schema.{container, leaf, leaf_list, list, choice}
use Rattle.yspec_wide.specs.Types.{leaf_type_in, default_values_in}
use Rattle.ybase_words.specs.KeywordView.{keyword_view}
use Rattle.ylink_grammar.specs.LanguageView.{language_view}
use Rattle.yschema_plan.specs.NodesView.{node_view}
use Rattle.yschema_plan.specs.PlanView.{view}
use Rattle.yschema_model.specs.Layout.{amount_view}
use Rattle.yschema.proofs.MakingLemmas.{kind_for, other_kind}
use Rattle.yschema.proofs.making.kind_stated.Goals as goal

pub returns-in-Container : goal.returns-in-Container
returns-in-Container c =
    let p = node_view c.args.node in
    ap container (c.has_presence.ensures p.number)
    ∙ ap (kind_for (language_view c.args.language.now) (view c.args.plan.now) p) (ap keyword_view (sym c.in-Container.is) ∙ c.keyword.ensures)

pub returns-in_ok-absence_of-in-Leaf : goal.returns-in_ok-absence_of-in-Leaf
returns-in_ok-absence_of-in-Leaf c =
    let p = node_view c.args.node in
    ap₂ leaf c.in_ok-leaf_type_of-in-Leaf.ensures c.in_ok-absence_of-in-Leaf.ensures
    ∙ ap (kind_for (language_view c.args.language.now) (view c.args.plan.now) p) (ap keyword_view (sym c.in-Leaf.is) ∙ c.keyword.ensures)

pub returns-in_ok-values_of-in-LeafList : goal.returns-in_ok-values_of-in-LeafList
returns-in_ok-values_of-in-LeafList c =
    let plan = view c.args.plan.now in
    let p = node_view c.args.node in
    ap₂ (λ t vs. leaf_list t vs (amount_view c.amount.result)) c.in_ok-leaf_type_of-in-LeafList.ensures c.in_ok-values_of-in-LeafList.ensures
    ∙ (ap (leaf_list (leaf_type_in (language_view c.args.language.now) plan p) (default_values_in (language_view c.args.language.now) plan p)) (c.amount.ensures p.number)
    ∙ ap (kind_for (language_view c.args.language.now) plan p) (ap keyword_view (sym c.in-LeafList.is) ∙ c.keyword.ensures))

pub returns-in_ok-tuples_of-in-List : goal.returns-in_ok-tuples_of-in-List
returns-in_ok-tuples_of-in-List c =
    let p = node_view c.args.node in
    ap₂ list c.in_ok-tuples_of-in-List.ensures (c.amount-in-List.ensures p.number)
    ∙ ap (kind_for (language_view c.args.language.now) (view c.args.plan.now) p) (ap keyword_view (sym c.in-List.is) ∙ c.keyword.ensures)

pub returns-in-Choice : goal.returns-in-Choice
returns-in-Choice c =
    let p = node_view c.args.node in
    ap₂ choice (c.id_of.ensures ∙ c.default_case.ensures) (c.is_mandatory.ensures p.number)
    ∙ ap (kind_for (language_view c.args.language.now) (view c.args.plan.now) p) (ap keyword_view (sym c.in-Choice.is) ∙ c.keyword.ensures)

pub returns-in_default : goal.returns-in_default
returns-in_default c =
    let p = node_view c.args.node in
    other_kind (language_view c.args.language.now) (view c.args.plan.now) p c.keyword.result c.in_default.not-Container c.in_default.not-Leaf c.in_default.not-LeafList c.in_default.not-List c.in_default.not-Choice
    ∙ ap (kind_for (language_view c.args.language.now) (view c.args.plan.now) p) c.keyword.ensures
