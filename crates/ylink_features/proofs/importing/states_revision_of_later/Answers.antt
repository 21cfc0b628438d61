use Rattle.std.proofs.Common.{◌≡◌, true, is_some, option_map, sym, ap, ◌∙◌}
use Rattle.std.specs.Prelude.{◌&&◌, not, false}
use Rattle.std.specs.Option.{option_map_or}
use Rattle.yspec.specs.linking.Imports.{module_called}
use Rattle.yspec.specs.linking.Keyword.{revision_date_word}
use Rattle.yspec.specs.linking.Source.{argument_in, argument_with}
use Rattle.yspec_wide.specs.Language.{is_yang_1, version_of}
use Rattle.ybase_preorder.specs.View.{row_by, label_by}
use Rattle.ylink_conditions.specs.View.{version_view}
use Rattle.ylink_grammar.specs.SourceView.{source_view}
use Rattle.ylink_names.specs.FirstNamedView.{named}
use Rattle.ylink_features.proofs.ImportingLemmas.{later_called}
use Rattle.ylink_features.proofs.importing.states_revision_of_later.Goals as goal

pub returns-in-Some : goal.returns-in-Some
returns-in-Some c language modules are =
    let import = c.args.import in
    let argument = argument_in (label_by source_view import) in
    let later = option_map_or (λ m. not (is_yang_1 (version_of language modules m))) (module_called modules argument) false in
    let stated : is_some (argument_with revision_date_word (row_by source_view import.children)) ≡ true =
    ap (λ n. is_some (argument_with revision_date_word (row_by source_view n))) (sym c.children.ensures)
    ∙ (sym (ap is_some c.argument_with.ensures) ∙ ap (λ o. is_some (option_map (λ t. t.now) o)) c.in-Some.is) in
    c.is_later.ensures ∙ (later_called (version_of language modules) (option_map version_view c.get.result) (module_called modules argument)
    (ap (option_map version_view) (c.get.ensures ∙ ap (named c.args.by_name.now) c.argument_of.ensures) ∙ are argument)
    ∙ sym (ap (λ b. b && later) stated))
