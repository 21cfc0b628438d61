use Rattle.std.proofs.Common.{sym, ap, ap₂, ◌∙◌}
use Rattle.std.proofs.lemmas.Result.{IfOk-weaker}
use Rattle.ybase_words.specs.KeywordView.{keyword_view}
use Rattle.yschema_plan.specs.NodesView.{node_view}
use Rattle.yschema_plan.specs.PlanView.{view}
use Rattle.yschema_resolve.specs.Values.{wrong_leaf, wrong_leaf_list}
use Rattle.yschema_resolve.proofs.DefaultLemmas.{leaf_as, leaf_list_as}
use Rattle.yschema_resolve.proofs.defaults.has_wrong_default.Goals as goal

pub returns-in-Leaf : goal.returns-in-Leaf
returns-in-Leaf c = λ language of_plan key type.
    let plan = view c.args.plan.now in
    let p = node_view c.args.node in
    IfOk-weaker c.is_wrong_leaf.result _ _ (λ wrong so. so ∙ (ap₂ (wrong_leaf language plan p) key type
    ∙ leaf_as language plan p (ap keyword_view (sym c.in-Leaf.is) ∙ c.keyword.ensures))) (c.is_wrong_leaf.ensures language plan c.args.node.number of_plan
    (λ standing is. c.unmarked_type-unmarked.ensures language plan p standing of_plan.typed c.requires.stands (sym type ∙ is)))

pub returns-in-LeafList : goal.returns-in-LeafList
returns-in-LeafList c = λ language of_plan key type.
    let plan = view c.args.plan.now in
    let p = node_view c.args.node in
    IfOk-weaker c.is_wrong_leaf_list.result _ _ (λ wrong so. so ∙ (ap (wrong_leaf_list language plan p) type
    ∙ leaf_list_as language plan p (ap keyword_view (sym c.in-LeafList.is) ∙ c.keyword.ensures))) (c.is_wrong_leaf_list.ensures language plan c.args.node.number of_plan
    (λ standing is. c.unmarked_type-unmarked-in-LeafList.ensures language plan p standing of_plan.typed c.requires.stands (sym type ∙ is)))
