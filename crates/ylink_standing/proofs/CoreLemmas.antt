-- Under the core no statement is a feature or a condition.
use Rattle.std.proofs.Common.{◌≡◌, Bool, true, cond, List, [], Option, sym, ap, ◌∙◌, get_or}
use Rattle.std.specs.Prelude.{◌&&◌, false}
use Rattle.std.proofs.lemmas.Bool.{false≢true}
use Rattle.yspec.specs.Forest.{Forest}
use Rattle.yspec.specs.linking.Source.{Source}
use Rattle.yspec_wide.specs.Features.{is_chosen_feature, condition_holds}
use Rattle.yspec_wide.specs.Language.{Language, core}
use Rattle.yspec_wide.specs.Sources.{is_feature, is_condition}
use Rattle.ylink_standing.specs.ConditionView.{holds_at}
use Rattle.ylink_standing.specs.StandingView.{feature_at, told, AreAsked, AreChosen, IsOf}
use Rattle.ylink_standing.specs.declared.condition.Condition.{Condition}
use Rattle.ylink_standing.specs.declared.standing.FeaturesOn.{FeaturesOn}

module _ (language : Language) (modules : Forest Source) (is : language ≡ core) where
  pub none_chosen : (table : List Bool) → table ≡ [] → AreChosen table language modules
  none_chosen table none p at =
      ap (λ (l : List Bool). get_or l p.source.number false) none
      ∙ sym (ap (λ l. is_feature l p.source && is_chosen_feature l modules (feature_at p)) is)

  none_asked : (table : List (Option Condition)) → table ≡ [] → AreAsked table language modules
  none_asked table none p at on =
      ap (λ (l : List (Option Condition)). holds_at l on p.source.number) none
      ∙ sym (ap (λ l. cond (is_condition l p.source) (condition_holds l modules (told on) p.source) true) is)

  pub nothing_on : (f : FeaturesOn) → f.conditions.items ≡ [] → IsOf f language modules
  nothing_on f none = record {
    tells = λ p at is_one. absurd (false≢true (sym (ap (λ l. is_feature l p.source) is) ∙ is_one));
    asked = none_asked f.conditions.items none;
  }
