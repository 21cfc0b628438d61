use Rattle.std.proofs.Common.{◌≡◌, map, sym, ap, ap₂, ◌∙◌}
use Rattle.std.specs.List.{flat_map}
use Rattle.yspec.specs.linking.Graph.{is_on_circle}
use Rattle.yspec.specs.linking.Scopes.{statements_of}
use Rattle.yspec.specs.schema.Breaks.{least_from}
use Rattle.yspec_wide.specs.Features.{feature_edges}
use Rattle.ylink_grammar.specs.BreakView.{seen}
use Rattle.ylink_grammar.specs.LanguageView.{language_view}
use Rattle.ylink_grammar.specs.LinkView.{view}
use Rattle.ylink_features.specs.AskedView.{asked_of, asked_view, edges_in, lost_break}
use Rattle.ylink_features.proofs.LostLemmas.{edges_all, told_of_all}
use Rattle.ylink_features.proofs.lost.broken_condition_rule.Goals as goal

pub conditions_of-requires : goal.conditions_of-requires
conditions_of-requires c = record {
  prefixes = c.requires.prefixes;
  versions = c.requires.versions;
  features = c.requires.features;
}

pub returns : goal.returns
returns c =
    let modules = view c.args.sources.now in
    let language = language_view c.args.language.now in
    let conditions = c.in_ok-conditions.conditions.items in
    let circular = is_on_circle (feature_edges language modules) in
    let listed : map asked_view conditions ≡ flat_map (asked_of language modules) (statements_of modules) = c.in_ok-conditions.ensures in
    let all : edges_in c.deref.result.now ≡ feature_edges language modules = ap edges_in c.deref.ensures.value ∙ edges_all language modules conditions listed in
    let flags : c.deref-3.result.now ≡ map circular (edges_in c.deref-2.result.now) =
    c.deref-3.ensures.value ∙ (c.in_ok-flags.ensures
    ∙ ap₂ (λ es cs. map (is_on_circle es) (edges_in cs)) all (c.deref.ensures.value ∙ sym c.deref-2.ensures.value)) in
    told_of_all language modules conditions listed (seen c.args.so_far) (seen c.least_of.result)
    (c.least_of.ensures circular flags ∙ ap (λ cs. least_from (seen c.args.so_far) (flat_map (lost_break circular) (map asked_view cs))) c.deref-2.ensures.value)
