use Rattle.std.proofs.Common.{◌≡◌, Some, refl, ap, sym, ◌∙◌, option_map}
use Rattle.std.specs.Prelude.{option_and_then}
use Rattle.yspec.specs.linking.Arguments.{name_of}
use Rattle.yspec.specs.linking.Source.{argument_in}
use Rattle.yspec.specs.linking.Scopes.{definition_named}
use Rattle.ylink_arguments.specs.NameView.{name_view}
use Rattle.ylink_grammar.specs.SourceView.{source_view}
use Rattle.ylink_names.specs.DefinitionView.{kind_word}
use Rattle.ylink_names.specs.MeaningView.{numbered}
use Rattle.ylink_names.specs.ScopeView.{placed_at}
use Rattle.ylink_names.proofs.meanings.NamedModules.definition_of.Goals as goal

pub returns-in-Some : goal.returns-in-Some
returns-in-Some c modules number below ancestors are around =
    let p = placed_at (source_view number c.args.statement.now) below ancestors in
    let named : Some (name_view c.in-Some.name) ≡ name_of (argument_in p.source) =
    ap (option_map name_view) (sym c.in-Some.is) ∙ (c.name_of.ensures ∙ ap name_of c.argument.ensures) in
    c.definition_named.ensures modules p are around refl
    ∙ ap (λ o. numbered (option_and_then (definition_named modules (kind_word c.args.kind) p) o)) named
