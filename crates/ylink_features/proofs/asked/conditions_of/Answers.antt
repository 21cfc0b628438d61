use Rattle.std.proofs.Common.{[], ◌++◌, map, refl, ap₂, ◌∙◌}
use Rattle.std.specs.List.{flat_map}
use Rattle.yspec.specs.linking.Scopes.{placed}
use Rattle.ylink_grammar.specs.LanguageView.{language_view}
use Rattle.ylink_grammar.specs.LinkView.{view}
use Rattle.ylink_features.specs.AskedView.{asked_of, asked_view}
use Rattle.ylink_features.proofs.asked.conditions_of.Goals as goal

pub returns : goal.returns
returns c =
    let modules = view c.args.sources.now in
    let language = language_view c.args.meaning.now.language.now in
    c.in_ok-add_asked.ensures modules [] c.requires refl
    ∙ ap₂ (λ old f. map asked_view old ++ flat_map (asked_of language modules) (placed [] f)) c.new-made.ensures.items c.modules.ensures
