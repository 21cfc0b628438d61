use Rattle.std.proofs.Common.{◌≡◌, ◌&&◌, Bool, true, false, refl, sym, ap, ◌∙◌}
use Rattle.std.proofs.lemmas.Result.{IfOk-weaker}
use Rattle.yspec.specs.linking.Keyword.{leaf_word}
use Rattle.yspec.specs.linking.Planned.{is_a}
use Rattle.yspec.specs.linking.SchemaNodes.{is_key}
use Rattle.ylink_grammar.specs.LanguageView.{language_view}
use Rattle.yschema_plan.specs.NodesView.{node_view}
use Rattle.yschema_plan.specs.PlanView.{view}
use Rattle.yschema_resolve.specs.UnfitKeys.{unfit_by}
use Rattle.yschema_resolve.proofs.UnfitKeyLemmas.{regrouped}
use Rattle.yschema_resolve.proofs.unfit_keys.is_unfit_key.Goals as goal

pub returns-then-is_key_leaf : goal.returns-then-is_key_leaf
returns-then-is_key_leaf c =
    let plan = view c.args.plan.now in
    let p = node_view c.args.node in
    let unfit = unfit_by (language_view c.args.language.now) plan p in
    IfOk-weaker c.is_unfit.result _ _ (λ b e. e ∙ (ap (λ k. k && unfit) (sym c.if-is_key_leaf.true ∙ c.is_key_leaf.ensures)
    ∙ regrouped (is_a leaf_word p) (is_key plan p) unfit)) c.is_unfit.ensures

pub returns-else-is_key_leaf : goal.returns-else-is_key_leaf
returns-else-is_key_leaf c =
    let plan = view c.args.plan.now in
    let p = node_view c.args.node in
    let unfit = unfit_by (language_view c.args.language.now) plan p in
    ap (λ k. k && unfit) (sym c.if-is_key_leaf.false ∙ c.is_key_leaf.ensures)
    ∙ regrouped (is_a leaf_word p) (is_key plan p) unfit
