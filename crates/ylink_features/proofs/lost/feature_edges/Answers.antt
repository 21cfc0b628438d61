use Rattle.std.proofs.Common.{◌≡◌, map, ap, subst, ◌∙◌}
use Rattle.std.proofs.lemmas.Result.{IfOk-weaker}
use Rattle.std.specs.List.{flat_map}
use Rattle.yspec.specs.linking.Scopes.{statements_of}
use Rattle.ybase_graph.specs.Edges.{AreWithin, edge_view}
use Rattle.ybase_preorder.specs.View.{forest_in, slots_in}
use Rattle.ybase_preorder.proofs.RowLemmas.{size_forest}
use Rattle.ylink_grammar.specs.LanguageView.{language_view}
use Rattle.ylink_grammar.specs.LinkView.{view}
use Rattle.ylink_features.specs.AskedView.{asked_of, asked_view}
use Rattle.ylink_features.proofs.LostLemmas.{edges_all}
use Rattle.ylink_features.proofs.WithinLemmas.{edges_within}
use Rattle.ylink_features.proofs.lost.feature_edges.Goals as goal

pub conditions_of-requires : goal.conditions_of-requires
conditions_of-requires c = record {
  prefixes = c.requires.prefixes;
  versions = c.requires.versions;
  features = c.requires.features;
}

pub returns-clause-edges : goal.returns-clause-edges
returns-clause-edges c =
    let modules = view c.args.sources.now in
    let language = language_view c.args.language.now in
    let conditions = c.in_ok-conditions.conditions.items in
    let listed : map asked_view conditions ≡ flat_map (asked_of language modules) (statements_of modules) = c.in_ok-conditions.ensures in
    IfOk-weaker c.all_edges.result _ _ (λ made is. ap (map edge_view) (is ∙ ap (λ cs. flat_map (λ x. x.edges.items) cs) c.deref.ensures.value) ∙ edges_all language modules conditions listed)
    c.all_edges.ensures

pub returns-clause-within : goal.returns-clause-within
returns-clause-within c =
    let language = language_view c.args.language.now in
    let f = forest_in c.args.sources.now.table in
    IfOk-weaker c.all_edges.result _ _ (λ made is. subst (λ n. AreWithin n made.items) (size_forest (slots_in c.args.sources.now.table)) (edges_within language f made.items is))
    (returns-clause-edges c)
