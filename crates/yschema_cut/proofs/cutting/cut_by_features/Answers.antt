use Rattle.std.proofs.Common.{None, ap, ◌∙◌}
use Rattle.std.proofs.lemmas.Result.{IfOk-weaker}
use Rattle.yspec_wide.specs.Expansion.{augmented_in}
use Rattle.ybase_preorder.specs.Layout.{places}
use Rattle.ybase_preorder.specs.View.{slots_in}
use Rattle.ylink_grammar.specs.LanguageView.{language_view}
use Rattle.ylink_grammar.specs.LinkView.{view}
use Rattle.yschema_cut.proofs.HoldingLemmas.{standing_same}
use Rattle.yschema_cut.proofs.cutting.cut_by_features.Goals as goal

pub returns : goal.returns
returns c = λ is kept shows.
    let l = language_view c.args.language.now in
    let m = view c.args.sources.now in
    IfOk-weaker c.cut_by.result _ _ (λ made e. e ∙ ap (places None 0)
    (standing_same l c.args.features.now (slots_in c.args.sources.now.table) c.as_slice.result.now (c.as_slice.ensures.value ∙ c.in_ok-holding.ensures) is kept))
    (c.cut_by.ensures (augmented_in l m).0 shows)
