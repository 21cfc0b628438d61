use Rattle.std.proofs.Common.{◌≡◌, map, ap, ◌∙◌}
use Rattle.std.proofs.lemmas.Result.{IfOk-weaker}
use Rattle.yspec_wide.specs.Language.{is_chosen_of}
use Rattle.ybase_preorder.specs.View.{slots_in}
use Rattle.ylink_grammar.specs.LanguageView.{choosing_view, wide_view, language_view}
use Rattle.ylink_grammar.specs.LinkView.{view}
use Rattle.ylink_grammar.specs.SourceView.{source_view}
use Rattle.ylink_standing.specs.ChosenView.{is_chosen_by, is_chosen_in}
use Rattle.ylink_standing.specs.StandingView.{AreChosen}
use Rattle.ylink_standing.proofs.ChosenLemmas.{all_chosen}
use Rattle.ylink_standing.proofs.CoreLemmas.{none_chosen}
use Rattle.ylink_standing.proofs.choosing.chosen_of.Goals as goal

pub returns-in-Core : goal.returns-in-Core
returns-in-Core c = none_chosen (language_view c.args.language.now) (view c.args.sources.now) (ap language_view c.in-Core.is) c.new.result.items c.new.ensures.items

pub returns-in_ok-names-in-Rfc : goal.returns-in_ok-names-in-Rfc
returns-in_ok-names-in-Rfc c =
    let language = language_view c.args.language.now in
    let set = view c.args.sources.now in
    let chosen = is_chosen_in c.in_ok-chosen-in-Rfc.chosen in
    let names = map (λ t. t.now) c.as_slice-in-Rfc.result.now in
    IfOk-weaker c.chosen_among.result
    (λ table. table.items ≡ map (λ r. is_chosen_by language chosen names (source_view 0 r.label)) c.slots.result.now)
    (λ table. AreChosen table.items language set)
    (λ table. all_chosen (slots_in c.args.sources.now.table) language (wide_view c.in-Rfc.wide) (ap language_view c.in-Rfc.is)
    chosen names c.slots.result.now table.items
    (λ name feature. c.in_ok-chosen-in-Rfc.ensures name feature ∙ ap (λ cs. is_chosen_of (map choosing_view cs) name feature) c.as_slice.ensures.value)
    (ap (map (λ t. t.now)) c.as_slice-in-Rfc.ensures.value ∙ c.in_ok-names-in-Rfc.ensures) c.slots.ensures)
    c.chosen_among.ensures
