use Rattle.std.proofs.Common.{None, sym, ap, ◌∙◌}
use Rattle.yspec_wide.specs.Expansion.{augmented_in}
use Rattle.yspec_wide.specs.Standing.{standing}
use Rattle.yspec_wide.proofs.CoreExpansionLemmas.{standing_alike}
use Rattle.ybase_preorder.specs.Layout.{places}
use Rattle.ylink_grammar.specs.LanguageView.{language_view}
use Rattle.ylink_grammar.specs.LinkView.{view}
use Rattle.yschema_cut.proofs.cutting.cut.Goals as goal

pub returns-in-Core-clause-standing : goal.returns-in-Core-clause-standing
returns-in-Core-clause-standing c = λ is kept shows.
    let l = language_view c.args.language.now in
    let m = view c.args.sources.now in
    let parts = (augmented_in l m).0 in
    shows ∙ ap (places None 0) (sym (ap (λ k. standing k m parts) (ap language_view c.in-Core.is) ∙ standing_alike m parts))

pub returns-in-Rfc-clause-standing : goal.returns-in-Rfc-clause-standing
returns-in-Rfc-clause-standing c = c.cut_by_features.ensures
