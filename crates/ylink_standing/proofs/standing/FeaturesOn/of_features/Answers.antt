use Rattle.std.proofs.Common.{length, map, sym, ap, subst, ◌∙◌}
use Rattle.ybase_graph.specs.Edges.{AreWithin, edge_view}
use Rattle.ybase_preorder.specs.View.{slots_in}
use Rattle.ylink_grammar.specs.LanguageView.{language_view}
use Rattle.ylink_grammar.specs.LinkView.{view}
use Rattle.ylink_standing.specs.StandingView.{AreChosen}
use Rattle.ylink_standing.proofs.standing.FeaturesOn.of_features.Goals as goal

pub of-requires : goal.of-requires
of-requires c = subst (AreWithin (length (slots_in c.args.sources.now.table))) (sym c.as_slice-2.ensures.value) c.in_ok-edges.ensures.within

pub returns : goal.returns
returns c none =
    let language = language_view c.args.language.now in
    c.of.ensures language c.in_ok-conditions.ensures
    (subst (λ flags. AreChosen flags language (view c.args.sources.now)) (sym c.as_slice.ensures.value) c.in_ok-chosen.ensures)
    (ap (map edge_view) c.as_slice-2.ensures.value ∙ c.in_ok-edges.ensures.edges) none
