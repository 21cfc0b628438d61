use Rattle.std.proofs.Common.{[], ap, ◌∙◌}
use Rattle.std.proofs.lemmas.Result.{IfOk-weaker}
use Rattle.std.specs.Option.{option_map_or}
use Rattle.yspec_wide.specs.Expressions.{expression_of, names_in}
use Rattle.ytext.specs.View as text
use Rattle.ylink_arguments.specs.NameView.{names_view}
use Rattle.ylink_grammar.specs.LanguageView.{language_view}
use Rattle.ylink_grammar.specs.NamedType.{argument_text}
use Rattle.ylink_grammar.specs.SourceView.{source_view}
use Rattle.ylink_features.specs.AskedView.{all_named, asked_as}
use Rattle.ylink_features.proofs.asked.asked_by.Goals as goal

pub returns : goal.returns
returns c =
    let language = language_view c.args.meaning.now.language.now in
    let home = c.args.statement.now.home in
    let argument = argument_text (text.view c.args.statement.now.statement.now).0 in
    IfOk-weaker c.asked_as.result _ _ (λ made is modules number means.
    is number ∙ ap (asked_as (source_view number c.args.statement.now) c.args.above)
    (c.in_ok-named.ensures language modules means.prefixes means.features
    ∙ ap (all_named language modules home) (ap names_view c.deref.ensures.value
    ∙ (c.in_ok-names.ensures ∙ ap (λ v. option_map_or names_in (expression_of v argument) []) (c.version_of.ensures language modules means.versions)))))
    c.asked_as.ensures
