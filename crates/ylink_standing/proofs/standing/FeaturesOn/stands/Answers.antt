use Rattle.std.proofs.Common.{◌≡◌, ap₂, subst, ◌∙◌}
use Rattle.yspec_wide.specs.Features.{all_hold}
use Rattle.ybase_preorder.specs.View.{row_by}
use Rattle.ylink_grammar.specs.SourceView.{source_view}
use Rattle.ylink_standing.specs.ConditionView.{all_asked, is_in}
use Rattle.ylink_standing.specs.StandingView.{told}
use Rattle.ylink_standing.proofs.OrderLemmas.{tells_standing}
use Rattle.ylink_standing.proofs.RowLemmas.{row_says}
use Rattle.ylink_standing.proofs.standing.FeaturesOn.stands.Goals as goal

pub returns-clause-asked : goal.returns-clause-asked
returns-clause-asked c =
    c.all_hold.ensures
    ∙ ap₂ (λ xs ys. all_asked xs (is_in ys) (row_by source_view c.args.below)) c.as_slice.ensures.value c.as_slice-2.ensures.value

pub returns-clause-stands : goal.returns-clause-stands
returns-clause-stands c language modules is stands_there =
    let asked = c.args.self.now.conditions.items in
    let on = is_in c.args.self.now.on.items in
    let below = row_by source_view c.args.below in
    c.all_hold.ensures
    ∙ (ap₂ (λ xs ys. all_asked xs (is_in ys) below) c.as_slice.ensures.value c.as_slice-2.ensures.value
    ∙ (subst (λ f. all_asked asked on f ≡ all_hold language modules (told on) f) stands_there.2 (row_says asked on language modules is.asked stands_there.0 stands_there.1)
    ∙ tells_standing language modules on is.tells below))
